-- Behind the text of a front of a record comes what the record has then.
use Rattle.std.proofs.Common.{◌≡◌, ◌⊎◌, ℕ, Result, Ok, Err, List, [], ◌++◌, length, drop, reverse, Option, None, sym, ◌∙◌, ap, subst, ⊎_elim, true≢false}
use Rattle.std.specs.Prelude.{IfErr, IsSome, OnOk, is_some}
use Rattle.std.proofs.Math.Seq.{drop-append_seam}
use Rattle.std.proofs.lemmas.List.{reverse-append, reverse-reverse}
use Rattle.tp_types.specs.declared.configs.Config.{Config}
use Rattle.tp_types.specs.declared.refusals.PoolError.{PoolError}
use Rattle.tp_types.specs.declared.refusals.PoolError.TheVariants.{BookFull, NoMemory, WriteFailed}
use Rattle.tp_record.specs.declared.entries.Entry.{Entry}
use Rattle.tp_glance.specs.Word.{IsFrontOf}
use Rattle.tp_glance.proofs.Fronts.{IsFrontOf_empty, IsFrontOf_refl, IsFrontOf_trans}
use Rattle.tp_journal.specs.declared.endings.Stopped.{Stopped}
use Rattle.tp_journal.specs.declared.endings.Stopped.TheVariants.{Through, Left}
use Rattle.tp_journal.specs.declared.writers.RecordWriter.{RecordWriter}
use Rattle.tp_journal.specs.Endings.{IfThrough}
use Rattle.tp_journal.specs.Journals.{HasWritten, IsJournalOf}

-- what is dropped of a record behind the entries of a front of it is the rest
pub rest_of : (es h : List Entry) → IsFrontOf (reverse es) h → es ++ drop (length es) (reverse h) ≡ reverse h
rest_of es h front =
    let whole : reverse h ≡ es ++ reverse front.later =
    ap reverse front.goes_on ∙ reverse-append front.later (reverse es) ∙ ap (λ l. l ++ reverse front.later) (reverse-reverse es) in
    ap (λ l. es ++ drop (length es) l) whole ∙ ap (λ l. es ++ l) (drop-append_seam es (reverse front.later)) ∙ sym whole

pub rest_of_whole : (es whole : List Entry) → IsFrontOf (reverse es) (reverse whole) → es ++ drop (length es) whole ≡ whole
rest_of_whole es whole front = subst (λ l. es ++ drop (length es) l ≡ l) (reverse-reverse whole) (rest_of es (reverse whole) front)

-- what is missing, behind what was written of a front of what was known
pub missing : (es rest known whole : List Entry) (n : ℕ) → rest ≡ drop n whole → n ≡ length es → IsFrontOf (reverse es) known → IsFrontOf known (reverse whole) → es ++ rest ≡ whole
missing es rest known whole n told counted front goes_on =
    ap (λ l. es ++ l) (told ∙ ap (λ k. drop k whole) counted) ∙ rest_of_whole es whole (IsFrontOf_trans front goes_on)

-- where there was a success, both hold, and so does what follows
pub on_ok_two : {A E P Q X : Type 0} (r : Result A E) → (P → Q → X) → OnOk r P → OnOk r Q → OnOk r X
on_ok_two (Ok a) both p q = both p q
on_ok_two (Err e) both p q = tt

-- a writer that has failed has not kept well
pub failed_so : {A : Type 0} (o : Option A) → IsSome o → o ≡ None → ⊥
failed_so o some none = true≢false (sym some ∙ ap is_some none)

module _ {W : Type 0} (contents : W → Option (List ℕ)) (before : Option (List ℕ)) (c : Config) where
  -- what was written of a front of what was known is that of a front of what is known later
  pub front_stays : (old new : List Entry) (w : RecordWriter W) → IsFrontOf old new → IsJournalOf contents before c old w → IsJournalOf contents before c new w
  front_stays old new w goes_on is none =
      let has = is none in
      record { entries = has.entries; front = IsFrontOf_trans has.front goes_on; has_written = has.has_written }

  pub through_later : (stopped : Stopped W) (old new : List Entry) → IsFrontOf old new → IfThrough stopped (IsJournalOf contents before c old) → IfThrough stopped (IsJournalOf contents before c new)
  through_later (Through w) old new goes_on is = front_stays old new w goes_on is
  through_later Left old new goes_on is = tt

  pub begun : (known : List Entry) (w : RecordWriter W) → HasWritten contents before c [] w → IsJournalOf contents before c known w
  begun known w has none = record { entries = []; front = IsFrontOf_empty known; has_written = has }

  module _ {A : Type 0} (r : Result A PoolError) (old new news : List Entry) (was is : RecordWriter W) where
    -- the news of a sight were added behind a front of what it knew
    all_added : news ≡ drop was.entries (reverse new) → IsFrontOf old new
        → OnOk r ((es : List Entry) → HasWritten contents before c es was → HasWritten contents before c (es ++ news) is)
        → OnOk r (was.failure ≡ None) → IsJournalOf contents before c old was → OnOk r (HasWritten contents before c (reverse new) is)
    all_added told goes_on added sound kept = by r added sound
      where
        by : (r : Result A PoolError) → OnOk r ((es : List Entry) → HasWritten contents before c es was → HasWritten contents before c (es ++ news) is) → OnOk r (was.failure ≡ None) → OnOk r (HasWritten contents before c (reverse new) is)
        by (Ok a) added sound =
            let has = kept sound in
            subst (λ l. HasWritten contents before c l is)
            (ap (λ l. has.entries ++ l) (told ∙ ap (λ n. drop n (reverse new)) has.has_written.counted) ∙ rest_of has.entries new (IsFrontOf_trans has.front goes_on))
            (added has.entries has.has_written)
        by (Err e) added sound = tt

    pub front_added : news ≡ drop was.entries (reverse new) → IsFrontOf old new
        → OnOk r ((es : List Entry) → HasWritten contents before c es was → HasWritten contents before c (es ++ news) is)
        → OnOk r (was.failure ≡ None)
        → IfErr r (λ e. (((e ≡ NoMemory) ⊎ (e ≡ BookFull)) × (is ≡ was)) ⊎ ((e ≡ WriteFailed) × IsSome is.failure))
        → IsJournalOf contents before c old was → IsJournalOf contents before c new is
    front_added told goes_on added sound refused kept = by r (all_added told goes_on added sound kept) refused
      where
        by : (r : Result A PoolError) → OnOk r (HasWritten contents before c (reverse new) is)
            → IfErr r (λ e. (((e ≡ NoMemory) ⊎ (e ≡ BookFull)) × (is ≡ was)) ⊎ ((e ≡ WriteFailed) × IsSome is.failure)) → IsJournalOf contents before c new is
        by (Ok a) all refused = λ none. record { entries = reverse new; front = subst (λ h. IsFrontOf h new) (sym (reverse-reverse new)) (IsFrontOf_refl new); has_written = all }
        by (Err e) all refused =
            ⊎_elim (λ (x : ((e ≡ NoMemory) ⊎ (e ≡ BookFull)) × (is ≡ was)). subst (λ w. IsJournalOf contents before c new w) (sym x.1) (front_stays old new was goes_on kept))
            (λ (x : (e ≡ WriteFailed) × IsSome is.failure). λ none. absurd (failed_so is.failure x.1 none)) refused
