use Rattle.std.proofs.Common.{rules}
use Rattle.cluster_audit.proofs.auditing.audit_report.Goals as goal

pub returns : goal.returns
returns c = record {
  beyond = c.in_ok-notes.notes.found.items;
  conflicts = c.in_ok-conflicts.conflicts.items;
  unknown = c.in_ok-notes.notes.unknown.items;
  lines = c.in_ok-lines.lines.items;
  others = c.in_ok-last.last.items;
  reports = search rules;
  paired = search rules;
  ordered = search rules;
  told = search rules;
  reported = search rules;
}
