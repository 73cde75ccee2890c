-- One more element, as at a step of a loop.
use Rattle.std.proofs.Common.{◌≡◌, ℕ, suc, ◌+◌, ◌<◌, Option, List, [], ◌∷◌, ◌++◌, length, take, get_or, refl, sym, ap, ◌∙◌, subst, arith, append_assoc, append-nil, zero-add}
use Rattle.std.specs.Prelude.{map}
use Rattle.std.specs.List.{All, Contains, flat_map}
use Rattle.std.proofs.lemmas.List.{length-take, map_push, take_more}
use Rattle.std.proofs.lemmas.List.Concat.{flat_map-append}
use Rattle.std.proofs.lemmas.List.Elements.{All-append, All-cons, All-nil}
use Rattle.tp_record.specs.declared.rows.SlotRow.{SlotRow}
use Rattle.tp_explore.specs.declared.callers.Caller.{Caller}
use Rattle.tp_explore.specs.declared.deeds.Mover.TheVariants as mover
use Rattle.tp_explore.specs.declared.deeds.NextAsk.{NextAsk}
use Rattle.tp_explore.specs.declared.moves.Move.{Move}
use Rattle.tp_explore.specs.declared.plans.Plan.{Plan}
use Rattle.tp_explore.specs.Situation.{Situation, calls_of, seen}
use Rattle.tp_explore.specs.Moves.{IsMove, answer, caller_asks, callers_deeds, deeds, deeds_by, made, moved_on, slot_asks, slots_deeds}

-- deeds

callers-push : (plan : Plan) (s : Situation) (k : ℕ) (cs : List Caller) (c : Caller) →
    callers_deeds plan s k (cs ++ c ∷ []) ≡ callers_deeds plan s k cs ++ deeds_by (mover.Caller (length cs + k)) (caller_asks plan s (calls_of plan (length cs + k)) (moved_on s (calls_of plan (length cs + k)) c))
callers-push plan s k [] c = rw zero-add (append-nil _)
callers-push plan s k (x ∷ cs) c =
    let n : suc (length cs) + k ≡ length cs + suc k = omega arith in
    let first = deeds_by (mover.Caller k) (caller_asks plan s (calls_of plan k) (moved_on s (calls_of plan k) x)) in
    rw n (ap (λ ds. first ++ ds) (callers-push plan s (suc k) cs c) ∙ sym (append_assoc first (callers_deeds plan s (suc k) cs) _))

pub callers_more : (plan : Plan) (s : Situation) (cs : List Caller) (i : ℕ) (d : Caller) → i < length cs →
    callers_deeds plan s 0 (take (i + 1) cs) ≡ callers_deeds plan s 0 (take i cs) ++ deeds_by (mover.Caller i) (caller_asks plan s (calls_of plan i) (moved_on s (calls_of plan i) (get_or cs i d)))
callers_more plan s cs i d lt =
    let n : length (take i cs) + 0 ≡ i = omega (arith, length-take i cs) in
    ap (callers_deeds plan s 0) (take_more cs i d lt) ∙ callers-push plan s 0 (take i cs) (get_or cs i d)
    ∙ ap (λ n. callers_deeds plan s 0 (take i cs) ++ deeds_by (mover.Caller n) (caller_asks plan s (calls_of plan n) (moved_on s (calls_of plan n) (get_or cs i d)))) n

slots-push : (plan : Plan) (s : Situation) (k : ℕ) (os : List (Option SlotRow)) (o : Option SlotRow) →
    slots_deeds plan s k (os ++ o ∷ []) ≡ slots_deeds plan s k os ++ deeds_by mover.Pool (slot_asks plan s (length os + k) o)
slots-push plan s k [] o = rw zero-add (append-nil _)
slots-push plan s k (x ∷ os) o =
    let n : suc (length os) + k ≡ length os + suc k = omega arith in
    let first = deeds_by mover.Pool (slot_asks plan s k x) in
    rw n (ap (λ ds. first ++ ds) (slots-push plan s (suc k) os o) ∙ sym (append_assoc first (slots_deeds plan s (suc k) os) _))

pub slots_more : (plan : Plan) (s : Situation) (os : List (Option SlotRow)) (w : ℕ) (d : Option SlotRow) → w < length os →
    slots_deeds plan s 0 (take (w + 1) os) ≡ slots_deeds plan s 0 (take w os) ++ deeds_by mover.Pool (slot_asks plan s w (get_or os w d))
slots_more plan s os w d lt =
    let n : length (take w os) + 0 ≡ w = omega (arith, length-take w os) in
    ap (slots_deeds plan s 0) (take_more os w d lt) ∙ slots-push plan s 0 (take w os) (get_or os w d)
    ∙ ap (λ n. slots_deeds plan s 0 (take w os) ++ deeds_by mover.Pool (slot_asks plan s n (get_or os w d))) n

-- moves

flat_more : {A B : Type 0} (f : A → List B) (xs : List A) (i : ℕ) (d : A) → i < length xs → flat_map f (take (i + 1) xs) ≡ flat_map f (take i xs) ++ f (get_or xs i d)
flat_more f xs i d lt = ap (flat_map f) (take_more xs i d lt) ∙ flat_map-append f (take i xs) (get_or xs i d ∷ []) ∙ ap (λ ys. flat_map f (take i xs) ++ ys) (append-nil (f (get_or xs i d)))

module _ (plan : Plan) (s : Situation) (ds : List NextAsk) (i : ℕ) (d : NextAsk) (lt : i < length ds) (ms : List Move) (so_far : map (λ m. seen m.after) ms ≡ flat_map (made plan s) (take i ds)) where
  pub moves_none : [] ≡ made plan s (get_or ds i d) → map (λ m. seen m.after) ms ≡ flat_map (made plan s) (take (i + 1) ds)
  moves_none is = so_far ∙ sym (append-nil _) ∙ ap (λ ys. flat_map (made plan s) (take i ds) ++ ys) is ∙ sym (flat_more (made plan s) ds i d lt)

  pub moves_some : (m : Move) → seen m.after ∷ [] ≡ made plan s (get_or ds i d) → map (λ m. seen m.after) (ms ++ m ∷ []) ≡ flat_map (made plan s) (take (i + 1) ds)
  moves_some m is =
      map_push (λ m. seen m.after) ms m ∙ ap (λ ys. ys ++ seen m.after ∷ []) so_far ∙ ap (λ ys. flat_map (made plan s) (take i ds) ++ ys) is
      ∙ sym (flat_more (made plan s) ds i d lt)

pub is_move : (plan : Plan) (s : Situation) (e : NextAsk) (m : Move) → Contains (deeds plan s) e → seen m.after ∷ [] ≡ made plan s e → (m.deed ≡ e) × (answer plan s e ≡ m.answer) → IsMove plan s m
is_move plan s e m c is h =
    let P : NextAsk → Type 0 = λ x. Contains (deeds plan s) x × (answer plan s x ≡ m.answer) × Contains (made plan s x) (seen m.after) in
    let first : Contains (made plan s e) (seen m.after) = subst (λ ys. Contains ys (seen m.after)) is (0, omega arith, refl) in
    subst P (sym h.0) (c, h.1, first)

pub moves_each : (plan : Plan) (s : Situation) (ms : List Move) (m : Move) → All (λ m. IsMove plan s m) ms → IsMove plan s m → All (λ m. IsMove plan s m) (ms ++ m ∷ [])
moves_each plan s ms m all one = All-append (λ m. IsMove plan s m) ms (m ∷ []) all (All-cons (λ m. IsMove plan s m) m [] one (All-nil (λ m. IsMove plan s m)))
