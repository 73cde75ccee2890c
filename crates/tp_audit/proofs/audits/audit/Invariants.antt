use Rattle.std.proofs.Common.{◌≡◌, reverse, take}
use Rattle.tp_audit.specs.Audited.{settings, Judged}
use Rattle.tp_audit.proofs.audits.audit.Given as goal

abbrev pub invariant-loop-entry : goal.invariant-loop-entry
invariant-loop-entry l =
    record {
      settings : settings l.auditor ≡ l.config;
      judged : Judged l.auditor (reverse (take l.entry-index l.entries));
    }
