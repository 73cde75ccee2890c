use Rattle.std.proofs.Common.{Ok, Err, refl, sym, subst, inl, inr}
use Rattle.tp_types.specs.declared.refusals.PoolError.TheVariants.{BookFull}
use Rattle.tp_machine_state.specs.Room.{TellsRoom, IsInRoom}
use Rattle.tp_machine_state.proofs.parts.Parts.in_room.Goals as goal

pub returns-then-has_room : goal.returns-then-has_room
returns-then-has_room g c =
    let p = c.args.self.now in
    subst (λ q. IsInRoom p c.args.fall c.args.rise q (Ok c.in-Ok.x)) (sym c.in-Ok.is)
    (inl (refl, subst (TellsRoom p c.args.fall c.args.rise) c.if-has_room.true c.has_room.ensures))

pub returns-else-has_room : goal.returns-else-has_room
returns-else-has_room g c =
    let p = c.args.self.now in
    subst (λ q. IsInRoom p c.args.fall c.args.rise q (Err BookFull)) (sym c.in-Ok.is)
    (inr (refl, subst (TellsRoom p c.args.fall c.args.rise) c.if-has_room.false c.has_room.ensures))

pub returns-in-Err : goal.returns-in-Err
returns-in-Err g c = subst (λ q. IsInRoom c.args.self.now c.args.fall c.args.rise q (Err c.in-Err.e)) (sym c.in-Err.is) refl
