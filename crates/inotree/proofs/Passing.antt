-- What the tests of a call that were passed say of the tree.
use Rattle.std.proofs.Common.{◌≡◌, ℕ, ◌-◌, true, false, not, nat_le, ◌<◌, ◌≤◌, ◌||◌, ◌==◌, List, [], ◌∷◌, length, Option, Some, None, is_some, inl, inr, refl}
use Rattle.std.proofs.Common.{◌∙◌, arith}
use Rattle.std.specs.Prelude.{if◌then◌else◌}
use Rattle.std.specs.Option.{option_map}
use Rattle.std.proofs.lemmas.Bool.{cases_lt, not-false, or_parts}
use Rattle.std.proofs.lemmas.Bool.Decides.{nat_tests}
use Rattle.std.specs.FinMap as map
use Rattle.std.specs.FinSet as set
use Rattle.capbits.specs.declared.refusal.Refusal.{Refusal}
use Rattle.capbits.specs.declared.refusal.Refusal.TheVariants as refusal
use Rattle.capbits.specs.Refusal.{first_failing}
use Rattle.capbits.proofs.Tests.{passed-if}
use Rattle.inotree.specs.declared.index.Slot.{Slot}
use Rattle.inotree.specs.declared.node.Node.{Node}
use Rattle.inotree.specs.declared.node.Site.{Site}
use Rattle.inotree.specs.declared.node.Site.TheVariants.{Root, Stray, Under}
use Rattle.inotree.specs.declared.node.Presence.{Presence}
use Rattle.inotree.specs.declared.node.Presence.TheVariants.{Gone, Here, NoIno}
use Rattle.inotree.specs.Names.{is_bad_attribute, is_bad_name}
use Rattle.inotree.specs.Inodes.{InodeMap}
use Rattle.inotree.specs.Index.{NameIndex}
use Rattle.inotree.specs.Tree.{IsChildless, IsIndexed, IsTree, Nodes, child, depth, descends, is_directory, is_within, presence, presence_at, site_of, slot_at}
use Rattle.inotree.specs.Tests.{create_tests, detach_tests, is_gone, is_no_ino, is_root_site, remove_xattr_tests, rename_tests, set_xattr_tests}
use Rattle.inotree.specs.Tests.{snap_add_tests, snap_remove_tests, test_at}
use Rattle.inotree.proofs.Growing.{descend_up}
use Rattle.inotree.proofs.Inner.{long_name, no_long_attribute, no_long_snapshot}
use Rattle.inotree.proofs.Named.{child-index}

gone_at : (s : Option Site) → presence_at s ≡ Gone → s ≡ Some Stray
gone_at None e = cc
gone_at (Some Stray) e = refl
gone_at (Some Root) e = cc
gone_at (Some (Under dir name)) e = cc

pub gone_site : (m : InodeMap) (i : ℕ) → presence m i ≡ Gone → site_of m i ≡ Some Stray
gone_site m i e = gone_at (site_of m i) e

-- an inode that has a slot in the index stands there
pub slot_site : (s : Option Site) (p : Slot) → slot_at s ≡ Some p → s ≡ Some (Under (record { 0 = p.dir }) p.name)
slot_site None p e = cc
slot_site (Some Root) p e = cc
slot_site (Some Stray) p e = cc
slot_site (Some (Under dir name)) p e =
    let same : ◌≡◌ {A = Slot} (record { dir = dir.0; name = name }) p = cc in
    λ i. Some (Under (record { 0 = (same i).dir }) (same i).name)

here_by : (p : Presence) → is_no_ino p ≡ false → is_gone p ≡ false → p ≡ Here
here_by NoIno is was = cc
here_by Gone is was = cc
here_by Here is was = refl

none_of : {A : Type 0} (o : Option A) → is_some o ≡ false → o ≡ None
none_of None e = refl
none_of (Some x) e = cc

-- an inode that passed its tests is there, and so what comes behind them passed
pub here : (t : Nodes) (i : ℕ) (rest : Option Refusal) → (if is_no_ino (presence t.nodes i) then Some refusal.NoIno else if is_gone (presence t.nodes i) then Some refusal.Gone else rest) ≡ None →
    (presence t.nodes i ≡ Here) × (rest ≡ None)
here t i rest passed =
    let no = passed-if (is_no_ino (presence t.nodes i)) refusal.NoIno _ passed in
    let gone = passed-if (is_gone (presence t.nodes i)) refusal.Gone rest no.1 in
    (here_by (presence t.nodes i) no.0 gone.0, gone.1)

-- the new name and its directory
pub record IsFreeSite (m : InodeMap) (d : ℕ) (a : List ℕ) : Type 0 where
  pub kind : is_directory m d ≡ true
  pub here : presence m d ≡ Here
  pub good : is_bad_name a ≡ false
  pub free : child m d a ≡ None

free_site : (t : Nodes) (d : ℕ) (a : List ℕ) (rest : Option Refusal) →
    (if is_no_ino (presence t.nodes d) then Some refusal.NoIno else if is_gone (presence t.nodes d) then Some refusal.Gone else if not (is_directory t.nodes d) then Some refusal.NotDir else
    if is_bad_name a then Some refusal.NameBad else if is_some (child t.nodes d a) then Some refusal.Exists else rest) ≡ None → IsFreeSite t.nodes d a × (rest ≡ None)
free_site t d a rest passed =
    let at = here t d _ passed in
    let dir = passed-if (not (is_directory t.nodes d)) refusal.NotDir _ at.1 in
    let bad = passed-if (is_bad_name a) refusal.NameBad _ dir.1 in
    let taken = passed-if (is_some (child t.nodes d a)) refusal.Exists rest bad.1 in
    (record { kind = not-false (is_directory t.nodes d) dir.0; here = at.0; good = bad.0; free = none_of (child t.nodes d a) taken.0 }, taken.1)

below_limit : (n : ℕ) → nat_le 32 n ≡ false → n < 32
below_limit n e = grind (arith, nat_tests)

not_last : (n : ℕ) → (n == 18446744073709551615) ≡ false → n ≡ 18446744073709551615 → ⊥
not_last n e is = grind (arith, nat_tests)

pub passed-create : (t : Nodes) (d : ℕ) (a : List ℕ) → first_failing (create_tests t d a) ≡ None → IsFreeSite t.nodes d a × (depth t.nodes d < 32) × (t.last ≡ 18446744073709551615 → ⊥)
passed-create t d a passed =
    let p = free_site t d a _ passed in
    let deep = passed-if (nat_le 32 (depth t.nodes d)) refusal.TooDeep _ p.1 in
    let full = passed-if (nat_le 65536 (map.len t.nodes) || (t.last == 18446744073709551615)) refusal.Limit _ deep.1 in
    (p.0, below_limit (depth t.nodes d) deep.0, not_last t.last (or_parts (nat_le 65536 (map.len t.nodes)) (t.last == 18446744073709551615) full.0).1)

-- a name that can be given is not too long
pub short : (a : List ℕ) → (255 < length a → ⊥) → length a ≤ 255
short a not_long = elim (cases_lt 255 (length a)) [ inl long ↦ absurd (not_long long) | inr fits ↦ fits ]

known_at : (o : Option Node) → presence_at (option_map (λ n. n.site) o) ≡ Here → (n : Node) × (o ≡ Some n)
known_at None at = cc
known_at (Some n) at = (n, refl)

known : (t : Nodes) (i : ℕ) → presence t.nodes i ≡ Here → (n : Node) × (map.get t.nodes i ≡ Some n)
known t i at = known_at (map.get t.nodes i) at

-- an inode that is not the root, and has a path, stands in a directory
stands : (s : Option Site) → presence_at s ≡ Here → is_root_site s ≡ false → (slot : Slot) × (slot_at s ≡ Some slot)
stands None at root = cc
stands (Some Root) at root = cc
stands (Some Stray) at root = cc
stands (Some (Under dir name)) at root = (record { dir = dir.0; name = name }, refl)

-- so does one that may leave its site
source_passes : (t : Nodes) (i : ℕ) (rest : Option Refusal) →
    (if is_no_ino (presence t.nodes i) then Some refusal.NoIno else if is_gone (presence t.nodes i) then Some refusal.Gone else if is_root_site (site_of t.nodes i) then Some refusal.Root else rest) ≡ None →
    ((slot : Slot) × (slot_at (site_of t.nodes i) ≡ Some slot)) × (rest ≡ None)
source_passes t i rest passed =
    let at = here t i _ passed in
    let root = passed-if (is_root_site (site_of t.nodes i)) refusal.Root rest at.1 in
    (stands (site_of t.nodes i) at.0 root.0, root.1)

pub passed-detach : (t : Nodes) (i : ℕ) → first_failing (detach_tests t i) ≡ None → ((slot : Slot) × (slot_at (site_of t.nodes i) ≡ Some slot)) × (descends 1 t.nodes i ≡ false)
passed-detach t i passed =
    let p = source_passes t i _ passed in
    (p.0, (passed-if (descends 1 t.nodes i) refusal.NotEmpty _ p.1).0)

pub passed-rename : (t : Nodes) (i d : ℕ) (a : List ℕ) → first_failing (rename_tests t i d a) ≡ None →
    ((slot : Slot) × (slot_at (site_of t.nodes i) ≡ Some slot)) × IsFreeSite t.nodes d a × (is_within t.nodes d i ≡ false) × (descends (32 - depth t.nodes d) t.nodes i ≡ false)
passed-rename t i d a passed =
    let p = source_passes t i _ passed in
    let q = free_site t d a _ p.1 in
    let loop = passed-if (is_within t.nodes d i) refusal.Loop _ q.1 in
    let deep = passed-if (descends (32 - depth t.nodes d) t.nodes i) refusal.TooDeep _ loop.1 in
    (p.0, q.0, loop.0, deep.0)

pub passed-set_xattr : (t : Nodes) (i : ℕ) (a v : List ℕ) → first_failing (set_xattr_tests t i a v) ≡ None → is_bad_attribute a ≡ false
passed-set_xattr t i a v passed = (passed-if (is_bad_attribute a) refusal.NameBad _ (here t i _ passed).1).0

pub passed-snap_add : (t : Nodes) (i : ℕ) (a : List ℕ) → first_failing (snap_add_tests t i a) ≡ None → is_bad_name a ≡ false
passed-snap_add t i a passed =
    let dir = passed-if (not (is_directory t.nodes i)) refusal.NotDir _ (here t i _ passed).1 in
    (passed-if (is_bad_name a) refusal.NameBad _ dir.1).0

pub short_attribute : (t : Nodes) → IsTree t → (i : ℕ) (a : List ℕ) → first_failing (remove_xattr_tests t i a) ≡ None → length a ≤ 255
short_attribute t tree i a passed =
    let at = here t i _ passed in
    let inode = known t i at.0 in
    let found = (passed-if (test_at (λ n. not (map.contains_key n.attributes a)) t i) refusal.NoXattr _ at.1).0 in
    short a (λ long. let absent = no_long_attribute t tree i inode.0 a inode.1 long in cc)

pub short_snapshot : (t : Nodes) → IsTree t → (i : ℕ) (a : List ℕ) → first_failing (snap_remove_tests t i a) ≡ None → length a ≤ 255
short_snapshot t tree i a passed =
    let at = here t i _ passed in
    let inode = known t i at.0 in
    let dir = passed-if (not (is_directory t.nodes i)) refusal.NotDir _ at.1 in
    let found = (passed-if (test_at (λ n. not (set.contains n.snapshots a)) t i) refusal.NoEnt _ dir.1).0 in
    short a (λ long. let absent = no_long_snapshot t tree i inode.0 a inode.1 long in cc)

pub childless_file : (m : InodeMap) (last k : ℕ) → IsTree (record { nodes = m; last = last }) → is_directory m k ≡ false → IsChildless m k
childless_file m last k t file i b u = let dir = (t.parents i k b u).0 in cc

pub childless_empty : (m : InodeMap) (k : ℕ) → descends 1 m k ≡ false → IsChildless m k
childless_empty m k none i b u = let some : descends 1 m k ≡ true = descend_up 1 m i (b ∷ []) k (omega arith) (k, u, refl) in cc

-- a name that is too long is no child's
pub long_child : (m : InodeMap) (last : ℕ) (index : NameIndex) → IsTree (record { nodes = m; last = last }) → IsIndexed m index → (d : ℕ) (a : List ℕ) → 255 < length a → child m d a ≡ None
long_child m last index t x d a long = child-index m index x d a ∙ go (map.get index (record { dir = d; name = a })) refl where
  go : (o : Option ℕ) → map.get index (record { dir = d; name = a }) ≡ o → o ≡ None
  go None g = refl
  go (Some i) g = let good = t.names i d a (x.real i d a g) in let bad = long_name a long in cc
