-- A machine that is made.
use Rattle.std.specs.Prelude.{ℕ, ◌≡◌, ◌≢◌, ◌⊎◌, [], List, Err}
use Rattle.tp_types.specs.Config.{IsConfig, checked}
use Rattle.tp_types.specs.declared.configs.Config.{Config}
use Rattle.tp_types.specs.declared.refusals.PoolError.TheVariants.{BadLine, NoMemory}
use Rattle.tp_record.specs.Terms.{without_end}
use Rattle.tp_text.specs.Lines.{IsClean}
use Rattle.tp_text.specs.Pools.{FitsPool, config_of as settings_of, pool_text}
use Rattle.tp_text.specs.declared.pools.PoolLine.{PoolLine}
use Rattle.tp_machine.specs.Seen.{At, config_of}
use Rattle.tp_c.specs.declared.handles.Kept.{Kept}
use Rattle.tp_c.specs.declared.handles.Kept.TheVariants.{Full, Tallied}
use Rattle.tp_c.specs.declared.handles.Handle.{Handle}
use Rattle.tp_c.specs.declared.statuses.Status.{Status}
use Rattle.tp_c.specs.declared.statuses.Status.TheVariants.{Refused, WrongKind}
use Rattle.tp_c.specs.Handles.{tells_whole, tells_length}

-- a machine with these settings, which nothing has been asked of, and which keeps its record (0) or its length alone (1)
abbrev pub IsNew : ℕ → Config → Kept → Type 0
IsNew recorder c (Full m) = (recorder ≡ 0) × At tells_whole m [] [] × (config_of m ≡ c)
IsNew recorder c (Tallied m) = (recorder ≡ 1) × At tells_length m [] [] × (config_of m ≡ without_end c)

-- there is no such recorder, or no pool can have these settings, or there was no memory
abbrev pub IsUnmade : ℕ → Config → Status → Type 0
IsUnmade recorder c WrongKind = (recorder ≢ 0) × (recorder ≢ 1)
IsUnmade recorder c (Refused e) = (checked c ≡ Err e) ⊎ ((e ≡ NoMemory) × IsConfig c)
IsUnmade recorder c _ = ⊥

-- the bytes are none of a line, or those of a line that says no pool
abbrev pub IsNoPoolLine : List ℕ → Type 0
IsNoPoolLine line = (IsClean line → ⊥) ⊎ ((p : PoolLine) → FitsPool p → line ≢ pool_text p)

-- a pool of this line, which nothing has been asked of
pub record IsOpened (line : List ℕ) (recorder : ℕ) (h : Handle) : Type 0 where
  pub pool : PoolLine
  pub fits : FitsPool pool
  pub says : line ≡ pool_text pool
  pub settings : h.config ≡ settings_of pool
  pub new : IsNew recorder (settings_of pool) h.kept
  pub none_handed : h.handed.items ≡ []

-- the line says no pool, or one that is refused
abbrev pub IsUnopened : List ℕ → ℕ → Status → Type 0
IsUnopened line recorder s = ((s ≡ Refused (BadLine 1)) × IsNoPoolLine line)
    ⊎ ((pool : PoolLine) × FitsPool pool × (line ≡ pool_text pool) × IsUnmade recorder (settings_of pool) s)
