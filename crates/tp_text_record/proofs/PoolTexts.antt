-- Which texts are written pool lines.
use Rattle.std.proofs.Common.{◌≡◌, ◌≢◌, ℕ, List, Option, Some, None, refl, sym, ◌∙◌, ap, subst, arith, inl, inr}
use Rattle.std.specs.Prelude.{IfSome, unwrap_or}
use Rattle.std.proofs.lemmas.Bool.Decides.{eqb_tells}
use Rattle.std.proofs.lemmas.Option.{none-some, same_Some}
use Rattle.tp_types.specs.declared.configs.Config.{Config}
use Rattle.tp_text.specs.declared.pools.PoolLine.{PoolLine}
use Rattle.tp_text.specs.Fits.{Fits32}
use Rattle.tp_text.specs.Pools.{FitsPool, config_of, pool_text}
use Rattle.tp_text.proofs.PoolReading.{pool_text-injective}
use Rattle.tp_text_record.specs.declared.versions.Version.{Version}
use Rattle.tp_text_record.specs.RecordText.{FitsConfig, HasPoolLine, SuitsQueue, pool_line, written, written_limit}

other_limit : (n : ℕ) → n ≢ 4096 → written_limit n ≡ Some n
other_limit n other = elim (eqb_tells n 4096) [ inl p ↦ absurd (other p.1) | inr p ↦ rw p.0 refl ]

limit_kept : (l : Option ℕ) → l ≢ Some 4096 → written_limit (unwrap_or l 4096) ≡ l
limit_kept None other = refl
limit_kept (Some n) other = other_limit n (λ e. other (ap Some e))

limited : PoolLine → Option ℕ → PoolLine
limited p l = record p { limit = l }

-- a pool line that does not say the usual limit is the one that is written
written_back : (p : PoolLine) → p.limit ≢ Some 4096 → written (config_of p) ≡ p
unfolding limited
written_back p other = ap (limited p) (limit_kept p.limit other)

fits_limit : (l : Option ℕ) → IfSome l Fits32 → Fits32 (unwrap_or l 4096)
fits_limit None fits = omega arith
fits_limit (Some n) fits = fits

pub pool_read : (bs : List ℕ) (p : PoolLine) → FitsPool p → bs ≡ pool_text p → p.limit ≢ Some 4096 → HasPoolLine (config_of p) × (bs ≡ pool_line (config_of p))
pool_read bs p fits is other =
    let same = written_back p other in
    ((subst FitsPool (sym same) fits, fits_limit p.limit fits.4), is ∙ ap pool_text (sym same))

usual_unwritten : (n : ℕ) → written_limit n ≢ Some 4096
usual_unwritten n e = elim (eqb_tells n 4096) [ inl p ↦ none-some 4096 (sym (rw p.0 refl) ∙ e) | inr p ↦ p.1 (same_Some n 4096 (sym (other_limit n p.1) ∙ e)) ]

-- a pool line that says the usual limit is not written
pub no_usual : (bs : List ℕ) (p : PoolLine) → FitsPool p → bs ≡ pool_text p → p.limit ≡ Some 4096 → (c : Config) → HasPoolLine c → bs ≢ pool_line c
no_usual bs p fits is usual c good same =
    let one : p ≡ written c = pool_text-injective p (written c) fits good.0 (sym is ∙ same) in
    usual_unwritten c.record_limit (sym (ap (λ (x : PoolLine). x.limit) one) ∙ usual)

back_limit : (n : ℕ) → unwrap_or (written_limit n) 4096 ≡ n
back_limit n = elim (eqb_tells n 4096) [ inl p ↦ rw p.0 (sym p.1) | inr p ↦ rw p.0 refl ]

with_limit : Config → ℕ → Config
with_limit c n = record c { record_limit = n }

-- a configuration is the one that its pool line says
written_again : (c : Config) → config_of (written c) ≡ c
unfolding with_limit
written_again c = ap (with_limit c) (back_limit c.record_limit)

-- no text is the written pool line of two configurations
pub pool_line-injective : (c d : Config) → HasPoolLine c → HasPoolLine d → pool_line c ≡ pool_line d → c ≡ d
pool_line-injective c d x y same = sym (written_again c) ∙ ap config_of (pool_text-injective (written c) (written d) x.0 y.0 same) ∙ written_again d

-- a pool line with a queue that a form does not know is none in this form
pub unsuited_pool : (v : Version) (bs : List ℕ) (c : Config) → HasPoolLine c → bs ≡ pool_line c → (SuitsQueue v c.queue → ⊥) → (d : Config) → FitsConfig v d → bs ≢ pool_line d
unsuited_pool v bs c fits is none d good same =
    let one = pool_line-injective c d fits good.0 (sym is ∙ same) in none (subst (λ (x : Config). SuitsQueue v x.queue) (sym one) good.1)
