-- `zk_core_handed` meets its contract: what lies at the pointer is lent to `handed_of` for a lifetime that is made for the call, and comes back.
use Rattle.std.proofs.Common.{ℕ, List, [], ◌∷◌, ◌++◌, refl, w32, w64}
use Rattle.std.proofs.raw_atomic.Walks.{proved}
use base.Fraction.{full_share}
use base.Logic.{sep, id⊢}
use base.Fml.{ftrue, flft, flent}
use mir.Syntax.{named}
use mir.Val.{vptr}
use prog.Wp.{WpFn}
use types.Logic.{sem}
use contract.Monad.{fact}
use contract.Running.{tables}
use types.Kit.{‵, raw, ◌⊛◌, some, later, prop, ◌$◌, ◌∵◌, !, qed, done, move, keep, drop, use1, use2, use3, split, join, fsplit, pick, await, regoal, suffices, frame, show}
use types.Run.{enter, of_opd, addr, stop, no_more, and_then, returns}
use types.ByLocal.{alloc_all, pass_all, free_all, look_at, get, through, sets, lands_as}
use types.Tokens.{lft_new, lft_end}
use types.SemTy.{Body}
use denote.Exit.{yes}
use denote.Builtin.{u32, usize}
use denote.Laws.{Is, shows}
use denote.Memory.{mem}
use denote.Plain.{uint_Lawful, uint_vals, uint_Tells}
use denote.RawPtr.{Ptr, RawPtr, block_ptr, lies_at, in_a_block, rawptr_vals, rawptr_Tells}
use denote.Ref.{MutRef, mut_vals, mut_Tells}
use denote.Lend.{lends_ref, ref_back}
use denote.Signature.{plain}
use denote.Steps.{nothing, heard, peeks}
use denote.Triple.Call.{calls_at}
use denote.Triple.Clauses.{Lasts, lasts}
use denote.Triple.Spec.{triple_of}
use denote.Triple.Table.{framed}
use denote.Triple.Walked.{Stays, walk_of, says, stay_dropped, Goes-dropped, gave_ref, Goes-gave_ref, ends_at}
use Rattle.std.proofs.Common.{◌≡◌}
use Rattle.tp_c.specs.Homes.{OnMachine}
use Rattle.tp_c.specs.Views.{IsHanded}
use Rattle.tp_c.specs.contracts.homes.Home.{the_row as R}
use Rattle.tp_c.specs.contracts.exports.zk_core_handed as f
use Rattle.tp_c.proofs.exports.zk_core_handed.Statement.{statement}
use Rattle.tp_c.proofs.exports.zk_core_handed.Code as code
use Rattle.tp_c.specs.contracts.homes.handed_of as g
use Rattle.tp_c.proofs.homes.handed_of.Met.{met}

abbrev stayed : Stays f.ended.signature.params f.ended.kept
stayed = (stay_dropped _ yes, (stay_dropped _ yes, (gave_ref (0 ∷ []) tt (plain (λ _. u32)), tt)))

pub zk_core_handed_spec : {M : Type 1} → statement M
zk_core_handed_spec 𝓤 𝓛 𝓜 𝓡 wired =
    let c = f.clauses 𝓛 𝓜.mem 𝓡.returns in let W = walk_of 𝓛 f.ended stayed c in let 𝓣 = tables 𝓤 𝓛.H 𝓜 𝓡 𝓡.env in
    proved 𝓛 f.ended stayed c 𝓜 𝓡
    (Goes-dropped 𝓛 1 (plain (λ _. RawPtr)) yes (λ κs x w. refl), (Goes-dropped 𝓛 1 (plain (λ _. usize)) yes (λ κs x w. refl), (Goes-gave_ref 𝓛 1 0 tt (plain (λ _. u32)), tt)))
    f.Key.name code.function (code.unfolded 𝓤 𝓛.H 𝓜 𝓡 wired)
    (λ κs. (rawptr_vals, (uint_vals w64, (mut_vals, tt)))) (λ κs. (rawptr_Tells, (uint_Tells w64, (mut_Tells (named 0) κs.0 u32, tt)))) (λ κs qs bounds a before are.
    let y : Ptr → W.Ghost = λ p. ((κs, qs, bounds, (p, a.1), (rawptr_vals p, (uint_vals w64 a.1.0, (mut_vals a.1.1.0, tt)))), before) in
    qed 𝓛 (((‵ (flft κs.0 qs.0) ⊛ ‵ ftrue) ⊛ ‵ (RawPtr.own_val a.0 (rawptr_vals a.0)) ⊛ ‵ (usize.own_val a.1.0 (uint_vals w64 a.1.0)) ⊛ ‵ ((MutRef (named 0) κs.0 u32).own_val a.1.1.0 (mut_vals a.1.1.0)) ⊛ ‵ ftrue) ∷ ‵ (lies_at R full_share a.0 before) ∷ []) ∵
    split ! $ split ! $ move ! (2 ∷ []) $ split ! $ move ! (1 ∷ []) $ split ! $ move ! (1 ∷ []) $ split ! $ keep ! (6 ∷ 4 ∷ 2 ∷ 0 ∷ []) $
    in_a_block ! a.0 (λ p. lies_at R full_share p before) (id⊢ 𝓤 _) (λ b o e.
    regoal ! (λ p. prop (WpFn 𝓤 𝓛.H 𝓣.C 𝓣.Λ code.function (rawptr_vals p ++ (uint_vals w64 a.1.0 ++ (mut_vals a.1.1.0 ++ ([])))) (W.post (y p)))) e refl $
    enter ! _ _ _ _ _ $ alloc_all ! (λ l. pass_all ! refl ((tt, tt), (((uint_Lawful 𝓛 w64).typed a.1.0 _ are.1.0).0, ((tt, tt), tt))) $
    sets ! (of_opd ! (get ! refl)) refl (tt, tt) $
    sets ! (addr ! (through ! refl (stop !))) refl (tt, tt) $
    sets ! (addr ! (through ! refl (stop !))) refl (tt, tt) $
    lft_new ! tt (λ α. let κm : List ℕ = α ∷ [] in move ! (1 ∷ []) $
    use1 𝓛 (later (some (λ (γ : ℕ). ‵ ((MutRef (named 0) κm R).own_val (record { ref_ptr = (b, o); ghost_name = γ; now = before }) (vptr b o ∷ [])) ⊛ ‵ (flent κm (Body (mem R) b o γ)))))
    (lends_ref 𝓛 R (named 0) κm before b o) $ await ! tt $ pick ! (λ γ. split ! $
    -- [the loan; what the lender keeps; the loan's token; the other tokens; the other parameters]
    let G = triple_of 𝓛 g.signature (g.spec 𝓛 𝓜.mem 𝓡.returns) in
    let z : G.Ghost = (((κm, (κs.0, tt)), (full_share, (qs.0, tt)), tt, (record { ref_ptr = (b, o); ghost_name = γ; now = before }, (a.1.0, (a.1.1.0, tt))), (vptr b o ∷ [], (uint_vals w64 a.1.0, (mut_vals a.1.1.0, tt)))), tt) in
    nothing ! $ move ! (6 ∷ 0 ∷ []) $ join ! $ move ! (5 ∷ 0 ∷ []) $ join ! $ move ! (1 ∷ 0 ∷ []) $ join ! $ nothing ! $ move ! (4 ∷ 0 ∷ []) $ join ! $ move ! (3 ∷ 0 ∷ []) $ join ! $ join ! $ nothing ! $ move ! (1 ∷ 0 ∷ []) $ use2 𝓛 (raw (G.pre z)) (id⊢ 𝓤 _) $
    calls_at ! (framed 𝓤 𝓛.H 𝓜 (tables 𝓤 𝓛.H 𝓜 𝓡 𝓡.env)) G (met 𝓤 𝓛 𝓜 𝓡 (code.calls-tp_c::homes::handed_of 𝓡.env wired)) z
    (and_then ! (get ! refl) (and_then ! (get ! refl) (and_then ! (get ! refl) (no_more !)))) (λ v.
    use1 𝓛 (later (some (λ (r : ℕ). ((‵ (flft κm full_share) ⊛ ‵ (flft κs.0 qs.0) ⊛ ‵ ftrue) ⊛ ‵ (u32.own_val r (v ∷ []))) ⊛
    some (λ (ws : Lasts g.ended z.0.0 z.0.3). ‵ (lasts g.ended z.0.0 z.0.3 ws) ⊛ raw (fact 𝓤 ((ws.0 ≡ before) × OnMachine before.handle (λ h. IsHanded h.handed.items a.1.0 a.1.1.0.now (ws.1.1.0) r) (((ws.1.1.0) ≡ a.1.1.0.now) × (r ≡ 34)))))))) (id⊢ 𝓤 _) $
    await ! tt $ pick ! (λ r. split ! $ split ! $ split ! $ lft_end ! tt $ move ! (1 ∷ []) $ split ! $ move ! (4 ∷ []) $
    pick ! (λ ws. split ! $ move ! (1 ∷ []) $ heard ! _ (λ told. fsplit ! $ fsplit ! $ move ! (5 ∷ 7 ∷ 0 ∷ []) $
    use3 𝓛 (later (‵ (lies_at R full_share (block_ptr b o) ws.0))) (ref_back 𝓛 R κm γ ws.0 b o) $ await ! tt $
    move ! (2 ∷ []) $ fsplit ! $ drop ! $ fsplit ! $ move ! (6 ∷ []) $ peeks ! u32 (Is u32) (shows 𝓛 u32) r (v ∷ []) (λ is. lands_as ! refl refl ((uint_Lawful 𝓛 w32).typed r _ is).0 $
    returns ! (look_at ! 0 refl) $ free_all ! refl $ keep ! (0 ∷ 1 ∷ 3 ∷ 5 ∷ []) $
    suffices ! _ (ends_at 𝓛 f.ended stayed c (y (block_ptr b o)) v r (tt, (tt, (ws.1.1.0, tt))) (tt, (tt, (tt, tt)))) $
    nothing ! $ move ! (2 ∷ 0 ∷ []) $ join ! $ nothing ! $ join ! $ nothing ! $ join ! $ join ! $ nothing ! $ move ! (3 ∷ 0 ∷ []) $ join ! $ join ! $ frame ! $
    show ! (λ (after : R.Denot). sep 𝓤 (sem 𝓛 (lies_at R full_share (block_ptr b o) after)) (fact 𝓤 ((after ≡ before) × OnMachine before.handle (λ h. IsHanded h.handed.items a.1.0 a.1.1.0.now (ws.1.1.0) r) (((ws.1.1.0) ≡ a.1.1.0.now) × (r ≡ 34))))) ws.0 $ says ! told $ done !))))))))))
