use Rattle.std.proofs.Common.{◌≡◌, ℕ, List, Some, subst}
use Rattle.ceph_input.specs.Dump.{dump}
use Rattle.ceph_input.specs.FsNames.{fs_among}
use Rattle.texts.specs.Watched.{has_failed, inner_of}
use Rattle.cli_queries.specs.Fault.{IsFaultOfNames}
use Rattle.cli_queries.proofs.Audits.{are_named, are_of, audit_reported, bad_clients, bad_fs, forgotten, several_named, tree_refused, unwritten_audit}
use Rattle.cli_queries.proofs.audit_args.audit.Goals as goal

pub returns-in_err-given-clause-err : goal.returns-in_err-given-clause-err
returns-in_err-given-clause-err g c =
    bad_fs c.args.audit_args.now (g.R.Read.remaining (inner_of c.args.reader.now)) (g.W.Write.contents (inner_of c.args.writer.now)) (has_failed c.args.reader.now) (has_failed c.args.writer.now) c.in_err-given.field-0.0 c.from_residual.result
    c.in_err-given.ensures c.from_residual.ensures.1

pub returns-in_err-clients-clause-err : goal.returns-in_err-clients-clause-err
returns-in_err-clients-clause-err g c =
    bad_clients c.args.audit_args.now c.as_slice.result.now c.as_slice-2.result.now (g.R.Read.remaining (inner_of c.args.reader.now)) (g.W.Write.contents (inner_of c.args.writer.now)) (has_failed c.args.reader.now) (has_failed c.args.writer.now)
    c.in_err-clients.field-0.0 c.from_residual-in_err-clients.result c.as_slice.ensures.value c.as_slice-2.ensures.value c.in_err-clients.ensures.err c.from_residual-in_err-clients.ensures.1

pub returns-in_err-audit_args-clause-err : goal.returns-in_err-audit_args-clause-err
returns-in_err-audit_args-clause-err g c =
    forgotten c.args.audit_args.now (g.R.Read.remaining (inner_of c.args.reader.now)) (g.W.Write.contents (inner_of c.args.writer.now)) (has_failed c.args.reader.now) (has_failed c.args.writer.now)
    c.from_residual-in_err-audit_args.result c.from_residual-in_err-audit_args.ensures.1

pub returns-in_err-report-clause-err : goal.returns-in_err-report-clause-err
returns-in_err-report-clause-err g c =
    forgotten c.args.audit_args.now (g.R.Read.remaining (inner_of c.args.reader.now)) (g.W.Write.contents (inner_of c.args.writer.now)) (has_failed c.read_tree.new.reader) (has_failed c.args.writer.now)
    c.from_residual-in_err-report.result c.from_residual-in_err-report.ensures.1

pub returns-clause-err : goal.returns-clause-err
returns-clause-err g c =
    unwritten_audit c.args.audit_args.now (g.R.Read.remaining (inner_of c.args.reader.now)) (g.W.Write.contents (inner_of c.args.writer.now)) (g.W.Write.contents (inner_of c.write_text.new.writer)) (has_failed c.read_tree.new.reader) (has_failed c.write_text.new.writer)
    c.write_text.result c.write_text.ensures.err

pub returns-in_err-fs-clause-err : goal.returns-in_err-fs-clause-err
returns-in_err-fs-clause-err g c =
    let are = are_of c.args.audit_args.now c.as_slice.result.now c.as_slice-2.result.now c.in_ok-clients.clients c.as_slice.ensures.value c.as_slice-2.ensures.value c.in_ok-clients.ensures.ok in
    several_named c.args.audit_args.now c.in_ok-clients.clients c.in_ok-audit_args.field-0.items c.in_ok-given.given are c.in_ok-audit_args.ensures c.in_ok-given.ensures
    (g.R.Read.remaining (inner_of c.args.reader.now)) (g.W.Write.contents (inner_of c.args.writer.now)) (has_failed c.args.reader.now) (has_failed c.args.writer.now) c.in_err-fs.field-0.0 c.from_residual-in_err-fs.result
    (subst (λ (ns : List (List ℕ)). IsFaultOfNames ns c.in_ok-given.given c.in_err-fs.field-0.0) c.as_slice-3.ensures.value c.in_err-fs.ensures.err) c.from_residual-in_err-fs.ensures.1

pub returns-in_err-tree-clause-err : goal.returns-in_err-tree-clause-err
returns-in_err-tree-clause-err g c =
    let are = are_of c.args.audit_args.now c.as_slice.result.now c.as_slice-2.result.now c.in_ok-clients.clients c.as_slice.ensures.value c.as_slice-2.ensures.value c.in_ok-clients.ensures.ok in
    tree_refused c.args.audit_args.now c.in_ok-clients.clients c.in_ok-audit_args.field-0.items c.in_ok-given.given are c.in_ok-audit_args.ensures c.in_ok-given.ensures
    (g.R.Read.remaining (inner_of c.args.reader.now)) (g.W.Write.contents (inner_of c.args.writer.now)) (has_failed c.read_tree.new.reader) (has_failed c.args.writer.now) c.in_err-tree.field-0.0 c.from_residual-in_err-tree.result
    c.in_err-tree.ensures.err c.from_residual-in_err-tree.ensures.1

pub returns-clause-named : goal.returns-clause-named
returns-clause-named g c =
    let are = are_of c.args.audit_args.now c.as_slice.result.now c.as_slice-2.result.now c.in_ok-clients.clients c.as_slice.ensures.value c.as_slice-2.ensures.value c.in_ok-clients.ensures.ok in
    are_named c.args.audit_args.now c.in_ok-clients.clients c.in_ok-audit_args.field-0.items c.in_ok-given.given are c.in_ok-audit_args.ensures c.in_ok-given.ensures c.write_text.result

pub returns-clause-reported : goal.returns-clause-reported
returns-clause-reported g c =
    let are = are_of c.args.audit_args.now c.as_slice.result.now c.as_slice-2.result.now c.in_ok-clients.clients c.as_slice.ensures.value c.as_slice-2.ensures.value c.in_ok-clients.ensures.ok in
    audit_reported c.args.audit_args.now c.in_ok-clients.clients c.in_ok-audit_args.field-0.items c.in_ok-given.given are c.in_ok-audit_args.ensures c.in_ok-given.ensures
    c.in_ok-fs.fs c.in_ok-report.report.text.items c.as_slice-text.result.now (dump c.in_ok-tree.tree.inodes.items c.in_ok-tree.tree.paths) c.in_ok-report.report.found c.found_status-status.result
    (g.R.Read.remaining (inner_of c.args.reader.now)) (g.W.Write.contents (inner_of c.args.writer.now)) (g.W.Write.contents (inner_of c.write_text.new.writer)) (has_failed c.write_text.new.writer) c.write_text.result
    (subst (λ (ns : List (List ℕ)). fs_among ns c.in_ok-given.given ≡ Some c.in_ok-fs.fs) c.as_slice-3.ensures.value c.in_ok-fs.ensures.ok) c.in_ok-tree.ensures.ok c.in_ok-report.ensures
    c.found_status-status.ensures.reported c.as_slice-text.ensures.value c.write_text.ensures.status c.write_text.ensures.ok
