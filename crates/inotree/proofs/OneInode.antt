-- A change of one inode: what it leaves of the inodes, of their paths and of what every tree keeps.
use Rattle.std.proofs.Common.{◌≡◌, ℕ, Bool, false, not, nat_lt, ◌||◌, List, [], ◌∷◌, ◌++◌, Option, Some, None, is_some, refl, sym, ap, subst, ◌∙◌}
use Rattle.std.proofs.lemmas.Bool.{or_parts}
use Rattle.std.specs.Cmp.{nat_cmp_total}
use Rattle.std.specs.FinMap as map
use Rattle.std.specs.FinSet as set
use Rattle.std.specs.Option.{option_map, option_map_or}
use Rattle.capbits.specs.declared.refusal.Refusal.TheVariants as refusal
use Rattle.capbits.specs.Refusal.{first_failing, refused_if}
use Rattle.capbits.proofs.Tests.{pass-both, passed-both, passed-if}
use Rattle.inotree.specs.declared.node.Node.{Node}
use Rattle.inotree.specs.declared.node.Setting.{Setting}
use Rattle.inotree.specs.declared.node.Site.TheVariants.{Root, Stray}
use Rattle.inotree.specs.Names.{is_bad_attribute}
use Rattle.capbits.specs.Maps.{change_at}
use Rattle.inotree.specs.Inodes.{InodeMap, with_attribute, with_setting, with_site, without_attribute}
use Rattle.inotree.specs.Tree.{HasGoodNames, IsChildless, IsTree, Nodes, descends, is_directory, path_of, presence, presence_at, site_of}
use Rattle.inotree.specs.Calls.{changed, unlinked}
use Rattle.inotree.specs.Alike.{IsAlike}
use Rattle.inotree.specs.Tests.{childless_test, detach_tests, directory_test, empty_test, file_test, inode_tests, is_root_site, new_attribute_tests}
use Rattle.inotree.specs.Tests.{rmdir_tests, root_test, test_at, unlink_tests}
use Rattle.inotree.proofs.Below.{childless-descends}
use Rattle.inotree.proofs.Changes.{setting_kind, setting_site, tree-changed, tree-unlinked}
use Rattle.inotree.proofs.Elsewhere.{alike-other, field-changed, path_of-stays}
use Rattle.inotree.proofs.Inner.{attribute_good, no_attribute_good, setting_good}
use Rattle.capbits.proofs.Maps.{change-none, insert-other}
use Rattle.inotree.proofs.Passing.{childless_empty, childless_file, here}

-- ---- which inodes there are, and the others

pub get-changed : (f : Node → Node) (m : InodeMap) (k i : ℕ) → (i ≡ k → ⊥) → map.get (change_at f m k) i ≡ map.get m i
get-changed f m k i off = by_old (map.get m k)
  where
    by_old : (o : Option Node) → map.get (option_map_or (λ x. map.insert m k (f x)) o m) i ≡ map.get m i
    by_old None = refl
    by_old (Some x) = insert-other nat_cmp_total map.nat_cmp-IsAntisymmetric m k (f x) i off

is_some-map : {A B : Type 0} (f : A → B) (o : Option A) → is_some (option_map f o) ≡ is_some o
is_some-map f None = refl
is_some-map f (Some x) = refl

-- no inode comes, and none goes
pub exist-changed : (tree : Nodes) (f : Node → Node) (ino other : ℕ) → map.contains_key (changed f tree ino).nodes other ≡ map.contains_key tree.nodes other
exist-changed tree f ino other =
    let nothing : Node → Bool = λ n. false in
    sym (is_some-map nothing (map.get (change_at f tree.nodes ino) other)) ∙ ap is_some (field-changed f nothing (λ n. refl) tree.nodes ino other) ∙ is_some-map nothing (map.get tree.nodes other)

pub presence-other : (tree : Nodes) (f : Node → Node) (ino other : ℕ) → (other ≡ ino → ⊥) → presence (changed f tree ino).nodes other ≡ presence tree.nodes other
presence-other tree f ino other off = ap (λ o. presence_at (option_map (λ (n : Node). n.site) o)) (get-changed f tree.nodes ino other off)

-- ---- the inode stays where it stands

module _ (f : Node → Node) (site : (n : Node) → (f n).site ≡ n.site) where
  pub presence-changed : (tree : Nodes) (ino other : ℕ) → presence (changed f tree ino).nodes other ≡ presence tree.nodes other
  presence-changed tree ino other = ap presence_at (field-changed f (λ n. n.site) site tree.nodes ino other)

  pub path-changed : (tree : Nodes) (ino other : ℕ) → path_of (changed f tree ino).nodes other ≡ path_of tree.nodes other
  path-changed tree ino other =
      path_of-stays tree.nodes (change_at f tree.nodes ino) (λ i. Unit {0}) (λ i kept. field-changed f (λ n. n.site) site tree.nodes ino i) (λ i d a kept under. tt) other tt

  pub alike-but : (tree : Nodes) (ino other : ℕ) → (other ≡ ino → ⊥) → IsAlike tree (changed f tree ino) other
  alike-but tree ino other off = record {
    path = path-changed tree ino other;
    attr = ap (option_map (λ (n : Node). n.attr)) (get-changed f tree.nodes ino other off);
  }

-- ---- an inode in which none stands becomes a stray

pub alike-unlinked : (tree : Nodes) (ino other : ℕ) → IsChildless tree.nodes ino → (other ≡ ino → ⊥) → IsAlike tree (unlinked tree ino) other
alike-unlinked tree ino other childless off = alike-other tree (unlinked tree ino) ino (get-changed (with_site Stray) tree.nodes ino) childless other off

-- a file has none
pub childless-file : (tree : Nodes) (ino : ℕ) → IsTree tree → first_failing (file_test tree ino ∷ []) ≡ None → IsChildless tree.nodes ino
childless-file tree ino sound passed = childless_file tree.nodes tree.last ino sound (passed-if (is_directory tree.nodes ino) refusal.IsDir _ passed).0

-- nor has an empty directory
shallow-empty : (tree : Nodes) (ino : ℕ) → first_failing (directory_test tree ino ∷ empty_test tree ino ∷ []) ≡ None → descends 1 tree.nodes ino ≡ false
shallow-empty tree ino passed =
    let dir = passed-if (not (is_directory tree.nodes ino)) refusal.NotDir _ passed in
    let empty = passed-if (descends 1 tree.nodes ino || test_at (λ n. nat_lt 0 (set.len n.snapshots)) tree ino) refusal.NotEmpty _ dir.1 in
    (or_parts (descends 1 tree.nodes ino) _ empty.0).0

pub childless-empty : (tree : Nodes) (ino : ℕ) → first_failing (directory_test tree ino ∷ empty_test tree ino ∷ []) ≡ None → IsChildless tree.nodes ino
childless-empty tree ino passed = childless_empty tree.nodes ino (shallow-empty tree ino passed)

-- ---- what every tree keeps

-- where there is no such inode, nothing changes
sound-any : (tree : Nodes) (f : Node → Node) (ino : ℕ) → IsTree tree → ((x : Node) → map.get tree.nodes ino ≡ Some x → IsTree (changed f tree ino)) → IsTree (changed f tree ino)
sound-any tree f ino sound there = go (map.get tree.nodes ino) refl
  where
    go : (o : Option Node) → map.get tree.nodes ino ≡ o → IsTree (changed f tree ino)
    go None none = subst (λ (m : InodeMap). IsTree (record { nodes = m; last = tree.last })) (sym (change-none nat_cmp_total map.nat_cmp-IsAntisymmetric tree.nodes ino f none)) sound
    go (Some x) here = there x here

pub sound-changed : (tree : Nodes) (f : Node → Node) (ino : ℕ) → IsTree tree → ((n : Node) → (f n).kind ≡ n.kind) → ((n : Node) → (f n).site ≡ n.site) → ((n : Node) → HasGoodNames n → HasGoodNames (f n))
    → IsTree (changed f tree ino)
sound-changed tree f ino sound kind site good = sound-any tree f ino sound (λ x here. tree-changed tree.nodes tree.last ino x f here sound (kind x) (site x) (good x))

pub sound-setting : (tree : Nodes) (setting : Setting) (ino : ℕ) → IsTree tree → IsTree (changed (with_setting setting) tree ino)
sound-setting tree setting ino sound = sound-changed tree (with_setting setting) ino sound (setting_kind setting) (setting_site setting) (setting_good setting)

pub sound-attribute : (tree : Nodes) (name value : List ℕ) (ino : ℕ) → IsTree tree → first_failing (new_attribute_tests tree ino name value) ≡ None → IsTree (changed (with_attribute name value) tree ino)
sound-attribute tree name value ino sound passed =
    let good : is_bad_attribute name ≡ false = (passed-if (is_bad_attribute name) refusal.NameBad _ passed).0 in
    sound-changed tree (with_attribute name value) ino sound (λ n. refl) (λ n. refl) (attribute_good name value good)

pub sound-no-attribute : (tree : Nodes) (name : List ℕ) (ino : ℕ) → IsTree tree → IsTree (changed (without_attribute name) tree ino)
sound-no-attribute tree name ino sound = sound-changed tree (without_attribute name) ino sound (λ n. refl) (λ n. refl) (no_attribute_good name)

pub sound-unlinked : (tree : Nodes) (ino : ℕ) → IsTree tree → first_failing (root_test tree ino ∷ []) ≡ None → IsChildless tree.nodes ino → IsTree (unlinked tree ino)
sound-unlinked tree ino sound passed childless = sound-any tree (with_site Stray) ino sound (λ x here. tree-unlinked tree.nodes tree.last ino x here sound no_root childless)
  where
    no_root : site_of tree.nodes ino ≡ Some Root → ⊥
    no_root is = let no = (passed-if (is_root_site (site_of tree.nodes ino)) refusal.Root _ passed).0 in let yes = ap is_root_site is in cc

-- the tests of what leaves its site, as they are made: of the inode and the root first
source_passing : (tree : Nodes) (ino : ℕ) → first_failing (inode_tests tree ino ++ root_test tree ino ∷ []) ≡ None → first_failing (root_test tree ino ∷ []) ≡ None
source_passing tree ino passed = (here tree ino _ passed).1

-- so what may be unlinked or removed may be detached
detaching : (tree : Nodes) (ino : ℕ) → first_failing (inode_tests tree ino ++ root_test tree ino ∷ []) ≡ None → descends 1 tree.nodes ino ≡ false → first_failing (detach_tests tree ino) ≡ None
detaching tree ino front shallow =
    pass-both (inode_tests tree ino ++ root_test tree ino ∷ []) (childless_test tree ino ∷ []) front (ap (λ b. first_failing (refused_if b refusal.NotEmpty ∷ [])) shallow)

pub detach-unlink : (tree : Nodes) (ino : ℕ) → IsTree tree → first_failing (unlink_tests tree ino) ≡ None → first_failing (detach_tests tree ino) ≡ None
detach-unlink tree ino sound passed =
    let parts = passed-both (inode_tests tree ino ++ root_test tree ino ∷ []) (file_test tree ino ∷ []) passed in
    detaching tree ino parts.0 (childless-descends tree.nodes ino (childless-file tree ino sound parts.1))

pub detach-rmdir : (tree : Nodes) (ino : ℕ) → first_failing (rmdir_tests tree ino) ≡ None → first_failing (detach_tests tree ino) ≡ None
detach-rmdir tree ino passed =
    let parts = passed-both (inode_tests tree ino ++ root_test tree ino ∷ []) (directory_test tree ino ∷ empty_test tree ino ∷ []) passed in
    detaching tree ino parts.0 (shallow-empty tree ino parts.1)

pub sound-unlink : (tree : Nodes) (ino : ℕ) → IsTree tree → first_failing (inode_tests tree ino ++ root_test tree ino ∷ []) ≡ None → first_failing (file_test tree ino ∷ []) ≡ None → IsTree (unlinked tree ino)
sound-unlink tree ino sound passed file = sound-unlinked tree ino sound (source_passing tree ino passed) (childless-file tree ino sound file)

pub sound-rmdir : (tree : Nodes) (ino : ℕ) → IsTree tree → first_failing (inode_tests tree ino ++ root_test tree ino ∷ []) ≡ None → first_failing (directory_test tree ino ∷ empty_test tree ino ∷ []) ≡ None
    → IsTree (unlinked tree ino)
sound-rmdir tree ino sound passed empty = sound-unlinked tree ino sound (source_passing tree ino passed) (childless-empty tree ino empty)
