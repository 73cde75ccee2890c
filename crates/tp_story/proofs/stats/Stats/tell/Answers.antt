use Rattle.std.proofs.Common.{◌∙◌, ◌∷◌, length, ap, sym, subst}
use Rattle.tp_audit.specs.Tables.{StandsAt}
use Rattle.tp_story.specs.Counted.{Counting, Counts, taken, ended, opens, leaves, refused, with_one}
use Rattle.tp_story.proofs.Counting.{told_so_many, latest_in, count_next, refusals_next, spans_next, longest_next}
use Rattle.tp_story.proofs.stats.Stats.tell.Goals as goal

pub returns-clause-told : goal.returns-clause-told
returns-clause-told c = λ h counts.
    let inside = c.self.inside in
    let e = c.args.entry.now in
    let was = subst (λ (n : Counting). Counts n h) (sym c.self.view_is) counts in
    let judge = c.push.new.self in
    let after = c.tables-after.result.now in
    let told = c.in-Ok.ensures.told h was.judged in
    let there = subst (λ t. StandsAt judge.config (e ∷ h) t) (sym c.tables-after.ensures) told in
    let timed = c.reserve_all.ensures.times h was.timed in
    let latest = c.latest_of-latest.result in
    let here = latest_in judge.config (e ∷ h) after latest there c.latest_of-latest.ensures.number c.latest_of-latest.ensures.moment in
    let number = c.latest_of-latest.ensures.number ∙ told_so_many judge.config (e ∷ h) after there in
    let few = c.latest_of-latest.ensures.few in
    record {
      judged = told;
      timed = c.note.ensures.noted judge.config h there timed;
      waits = spans_next taken e h latest c.taken_task.result inside.waits.items c.reserve_all.new.waits.items c.add_span.new.spans.items here c.taken_task.ensures was.waits c.reserve_all.ensures.waits (c.add_span.ensures h timed);
      runs = spans_next ended e h latest c.ended_task.result inside.runs.items c.reserve_all.new.runs.items c.add_span-2.new.spans.items here c.ended_task.ensures was.runs c.reserve_all.ensures.runs (c.add_span-2.ensures h timed);
      refusals = refusals_next e h latest.number after.rank inside.refusals c.and-self-inside.result number few (ap (λ s. s.rank) there.shows.kept) was.refusals
          (λ one two three. c.and-self-inside.ensures one two three ∙ ap (λ o. refused o inside.refusals) c.reason_of.ensures);
      longest = longest_next inside.auditor.config judge.config e h c.len.result latest.number inside.longest c.longer-self-inside.result c.in-Ok.ensures.settings
          (c.len.ensures ∙ ap (λ s. length s.queue) there.shows.kept) number was.longest c.longer-self-inside.ensures;
      opened = count_next opens e h latest.number inside.opened c.with_one-self-inside.result number few was.opened (λ small. c.with_one-self-inside.ensures small ∙ ap (λ b. with_one b inside.opened) c.opens.ensures);
      left = count_next leaves e h latest.number inside.left c.with_one-self-inside-2.result number few was.left (λ small. c.with_one-self-inside-2.ensures small ∙ ap (λ b. with_one b inside.left) c.leaves.ensures);
    }
