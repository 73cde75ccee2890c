use Rattle.std.proofs.Common.{◌+◌, ◌*◌}
use Rattle.tp_pool_holds.proofs.staffing.+staffing.Given as goal

abbrev pub decreases-staff_heir : goal.decreases-staff_heir
decreases-staff_heir g l = 5 * l.heirs

abbrev pub decreases-launch : goal.decreases-launch
decreases-launch g l = 5 * l.heirs + 4

abbrev pub decreases-launch-work : goal.decreases-launch-work
decreases-launch-work g l = 5 * l.heirs + 3

abbrev pub decreases-run_worker : goal.decreases-run_worker
decreases-run_worker g l = 5 * l.heirs + 2

abbrev pub decreases-save : goal.decreases-save
decreases-save g l = 5 * l.heirs + 1
