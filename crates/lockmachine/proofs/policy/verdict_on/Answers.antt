use Rattle.std.proofs.Common.{◌≡◌, Some, ap, sym, ◌∙◌}
use Rattle.std.specs.FinMap as map
use Rattle.std.specs.Option.{option_copied, option_map}
use Rattle.sessiontab.specs.declared.session.Session.{Session}
use Rattle.capgrant.specs.Verdict.{verdict_of}
use Rattle.inotree.specs.Tree.{path_of}
use Rattle.inotree.proofs.Lent.{lent-where}
use Rattle.lockmachine.proofs.Verdicts.{rules-of}
use Rattle.lockmachine.proofs.policy.verdict_on.Goals as goal

pub returns-clause-rules : goal.returns-clause-rules
returns-clause-rules c =
    let path_is : path_of c.args.tree.now.nodes c.args.holder.ino.0 ≡ Some c.in-Some-Some.path.now =
    c.read_path.ensures ∙ sym (lent-where c.read_path.result _) ∙ ap option_copied (sym c.then_some-path.ensures ∙ c.in-Some-Some.is-0) in
    rules-of c.args.fs.now (map.get c.args.sessions.now.sessions c.args.holder.client.0) (path_of c.args.tree.now.nodes c.args.holder.ino.0) (map.get c.args.tree.now.nodes c.args.holder.ino.0)
    c.args.access c.in-Some.session.now.grants c.in-Some.session.now.caller c.in-Some-Some.path.now c.in-Some-Some.node.now c.verdict.result
    (ap (option_map (λ (s : Session). s.grants)) (sym c.in-Some.ensures)) (ap (option_map (λ (s : Session). s.caller)) (sym c.in-Some.ensures)) path_is (sym c.in-Some-Some.ensures.node)
    (c.verdict.ensures.exact
    ∙ (λ k. verdict_of (record { fs = c.args.fs.now; caller = c.in-Some.session.now.caller; path = c.as_slice.ensures k; attr = c.in-Some-Some.node.now.attr; access = c.args.access }) (c.grants-grants.ensures k)))
