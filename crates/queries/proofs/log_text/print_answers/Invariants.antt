use Rattle.std.proofs.Common.{◌≡◌, ◌++◌, map, take}
use Rattle.std.specs.List.{list_all}
use Rattle.capgrant.specs.declared.access.Access.{Access}
use Rattle.queries.specs.Reported.{answer_to, of_line, scope_of, text_of, with_access}
use Rattle.queries.specs.Told.{is_judgement}
use Rattle.queries.proofs.log_text.print_answers.Given as goal

abbrev pub invariant-loop-access : goal.invariant-loop-access
invariant-loop-access l = record {
  same : (access : Access) → with_access l.question access ≡ with_access l.fn.question access;
  printed : l.reported.items
      ≡ l.initial.reported.items ++ text_of (scope_of l.fn.line.scope) (of_line l.fn.line.number (map (answer_to l.fn.has_path l.fn.grants l.fn.question) (take l.access-index l.accesses)));
  judged : l.is_judged ≡ list_all is_judgement (map (answer_to l.fn.has_path l.fn.grants l.fn.question) (take l.access-index l.accesses));
}
