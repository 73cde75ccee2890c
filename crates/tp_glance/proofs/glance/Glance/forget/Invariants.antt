use Rattle.tp_glance.specs.Word.{with_released}
use Rattle.tp_glance.proofs.glance.Glance.forget.Given as goal

abbrev pub ghosts-forget_as : goal.ghosts-forget_as
ghosts-forget_as g a = record { next = with_released a._t.0 }
