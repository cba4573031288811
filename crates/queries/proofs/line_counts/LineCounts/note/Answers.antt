use Rattle.std.proofs.Common.{◌≡◌, ℕ, ◌+◌, map, ap, rules, ◌∙◌}
use Rattle.indexmap.specs.IndexMap.{insert_entry}
use Rattle.queries.specs.Counts.{counts_of, noted}
use Rattle.queries.proofs.LineCounts.{before, count_of, noted_there, same}
use Rattle.queries.proofs.line_counts.LineCounts.note.Goals as goal

pub returns : goal.returns
returns c =
    let entries = c.args.self.now.counts.entries in
    let line = c.in_ok-line.line in
    let counted : c.in_ok-count.count ≡ before entries line + 1 = search rules in
    ap (map count_of) c.in_ok-insert.ensures.entries
    ∙ ap (λ (n : ℕ). map count_of (insert_entry same entries line n)) counted
    ∙ noted_there entries line
    ∙ ap (noted (counts_of c.args.self.now)) c.in_ok-line.ensures.items
