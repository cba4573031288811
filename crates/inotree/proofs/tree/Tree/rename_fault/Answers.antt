use Rattle.std.proofs.Common.{◌≡◌, List, ◌∷◌, ◌++◌, [], sym, ◌∙◌}
use Rattle.capbits.specs.Refusal.{Test, first_failing}
use Rattle.capbits.proofs.Tests.{failing-front}
use Rattle.inotree.specs.Tests.{inode_tests, new_site_tests, root_test}
use Rattle.inotree.proofs.FirstOf.{first-both, first-last}
use Rattle.inotree.proofs.tree.Tree.rename_fault.Goals as goal

pub returns-in-Some : goal.returns-in-Some
returns-in-Some c =
    let t = c.args.self.now in
    let i = c.args.ino.0 in
    let d = c.args.dir.0 in
    let source_tests : List Test = inode_tests t i ++ root_test t i ∷ [] in
    let before : c.or-before.result ≡ first_failing (source_tests ++ inode_tests t d) = first-both source_tests (inode_tests t d) _ _ _ c.or-before.ensures
    (first-both (inode_tests t i) (root_test t i ∷ []) _ _ _ c.or.ensures c.inode_refusal-here.ensures c.root_refusal.ensures) c.inode_refusal.ensures in
    sym (failing-front (source_tests ++ inode_tests t d) (new_site_tests t i d c.args.name.now) c.in-Some.refusal (sym before ∙ c.in-Some.is))

pub returns : goal.returns
returns c =
    let t = c.args.self.now in
    let i = c.args.ino.0 in
    let d = c.args.dir.0 in
    let source_tests : List Test = inode_tests t i ++ root_test t i ∷ [] in
    let before : c.or-before.result ≡ first_failing (source_tests ++ inode_tests t d) = first-both source_tests (inode_tests t d) _ _ _ c.or-before.ensures
    (first-both (inode_tests t i) (root_test t i ∷ []) _ _ _ c.or.ensures c.inode_refusal-here.ensures c.root_refusal.ensures) c.inode_refusal.ensures in
    c.new_site_refusal.ensures ∙ first-last (source_tests ++ inode_tests t d) (new_site_tests t i d c.args.name.now) (sym before ∙ c.in_default.is)
