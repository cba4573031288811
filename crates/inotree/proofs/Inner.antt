-- The names of attributes and of snapshots: each change of an inode keeps that they can be given.
use Rattle.std.proofs.Common.{◌≡◌, ℕ, ◌<◌, nat_lt, not, Bool, true, false, ◌||◌, ◌==◌, List, length, Some, is_some, inl, inr, refl, sym, ap, subst, ◌∙◌, arith}
use Rattle.std.proofs.lemmas.Bool.Decides.{nat_tests}
use Rattle.std.specs.Cmp.{nat_cmp_total}
use Rattle.std.specs.FinMap as map
use Rattle.std.specs.FinSet as set
use Rattle.std.specs.Option.{option_map_or}
use Rattle.capgrant.specs.declared.access.Attr.{Attr}
use Rattle.inotree.specs.declared.node.Node.{Node}
use Rattle.inotree.specs.declared.node.Site.{Site}
use Rattle.inotree.specs.declared.node.Setting.{Setting}
use Rattle.inotree.specs.declared.node.Setting.TheVariants.{Gid, Mode, Size, Time, Uid}
use Rattle.inotree.specs.Names.{has_byte, is_bad_attribute, is_bad_name, is_dots, name_cmp}
use Rattle.inotree.specs.Node.{AttributeMap, NameSet}
use Rattle.inotree.specs.Inodes.{InodeMap, with_attr, with_attribute, with_setting, with_site, with_snapshot, without_attribute, without_snapshot}
use Rattle.inotree.specs.Tree.{AllHaveGoodNames, HasGoodNames, IsTree, Nodes}
use Rattle.inotree.specs.Tests.{test_at}
use Rattle.capbits.proofs.Found.{both_true}
use Rattle.capbits.proofs.Maps.{apart, insert-here, insert-other, remove-here, remove-other, same_or_other}
use Rattle.inotree.proofs.Order.{name_same, name_total}

pub some_same : {A : Type 0} {x y : A} → Some x ≡ Some y → x ≡ y
some_same e = cc

-- an inode that keeps nothing by name
pub good_none : (n : Node) → n.attributes ≡ map.empty → n.snapshots ≡ set.empty → HasGoodNames n
good_none n p q = record {
  attributes = λ name e. let none : map.contains_key n.attributes name ≡ false = ap (λ (m : AttributeMap). map.contains_key m name) p ∙ ap is_some (map.get-empty name_cmp name) in cc;
  snapshots = λ name e. let none : set.contains n.snapshots name ≡ false = ap (λ (s : NameSet). set.contains s name) q ∙ set.contains-empty name_cmp name in cc;
}

pub moved_good : (s : Site) (n : Node) → HasGoodNames n → HasGoodNames (with_site s n)
moved_good s n h = record { attributes = h.attributes; snapshots = h.snapshots }

pub attr_good : (attr : Attr) (n : Node) → HasGoodNames n → HasGoodNames (with_attr attr n)
attr_good attr n h = record { attributes = h.attributes; snapshots = h.snapshots }

pub setting_good : (s : Setting) (n : Node) → HasGoodNames n → HasGoodNames (with_setting s n)
setting_good (Mode mode) n h = record { attributes = h.attributes; snapshots = h.snapshots }
setting_good (Uid uid) n h = record { attributes = h.attributes; snapshots = h.snapshots }
setting_good (Gid gid) n h = record { attributes = h.attributes; snapshots = h.snapshots }
setting_good (Size size) n h = record { attributes = h.attributes; snapshots = h.snapshots }
setting_good (Time time) n h = record { attributes = h.attributes; snapshots = h.snapshots }

pub attribute_good : (a v : List ℕ) → is_bad_attribute a ≡ false → (n : Node) → HasGoodNames n → HasGoodNames (with_attribute a v n)
attribute_good a v good n h = record {
  attributes = λ name e. elim (same_or_other name_total name_same name a) [
    | inl is ↦ ap is_bad_attribute is ∙ good
    | inr off ↦ h.attributes name (sym (ap is_some (insert-other name_total name_same n.attributes a v name off)) ∙ e)
  ];
  snapshots = h.snapshots;
}

pub no_attribute_good : (a : List ℕ) (n : Node) → HasGoodNames n → HasGoodNames (without_attribute a n)
no_attribute_good a n h = record {
  attributes = λ name e. elim (same_or_other name_total name_same name a) [
    | inl is ↦ let none : map.contains_key (map.remove n.attributes a) name ≡ false = ap (map.contains_key (map.remove n.attributes a)) is ∙ ap is_some (remove-here name_total name_same n.attributes a) in cc
    | inr off ↦ h.attributes name (sym (ap is_some (remove-other name_total name_same n.attributes a name off)) ∙ e)
  ];
  snapshots = h.snapshots;
}

pub snapshot_good : (a : List ℕ) → is_bad_name a ≡ false → (n : Node) → HasGoodNames n → HasGoodNames (with_snapshot a n)
snapshot_good a good n h = record {
  attributes = h.attributes;
  snapshots = λ name e. elim (same_or_other name_total name_same name a) [
    | inl is ↦ ap is_bad_name is ∙ good
    | inr off ↦ h.snapshots name (sym (set.contains-insert name_total n.snapshots a name ∙ ap (λ b. b || set.contains n.snapshots name) (apart name_total name_same name a off)) ∙ e)
  ];
}

pub no_snapshot_good : (a : List ℕ) (n : Node) → HasGoodNames n → HasGoodNames (without_snapshot a n)
no_snapshot_good a n h = record {
  attributes = h.attributes;
  snapshots = λ name e. h.snapshots name (both_true _ _ (sym (set.contains-remove name_total n.snapshots a name) ∙ e)).1;
}

-- one inode more, or in place of another
pub put_inner : (m : InodeMap) (k : ℕ) (x : Node) → AllHaveGoodNames m → HasGoodNames x → AllHaveGoodNames (map.insert m k x)
put_inner m k x inner good i y got = elim (same_or_other nat_cmp_total map.nat_cmp-IsAntisymmetric i k) [
  | inl is ↦
      let now : map.get (map.insert m k x) k ≡ Some y = subst (λ j. map.get (map.insert m k x) j ≡ Some y) is got in
      let same : x ≡ y = some_same (sym (insert-here nat_cmp_total map.nat_cmp-IsAntisymmetric m k x) ∙ now) in
      subst HasGoodNames same good
  | inr off ↦ inner i y (sym (insert-other nat_cmp_total map.nat_cmp-IsAntisymmetric m k x i off) ∙ got)
]

too_long : (a : List ℕ) → 255 < length a → nat_lt 255 (length a) ≡ true
too_long a long = grind (arith, nat_tests)

second : (p q r : Bool) → q ≡ true → ((p || q) || r) ≡ true
second true q r e = refl
second false q r e = ap (λ b. b || r) e

pub long_name : (a : List ℕ) → 255 < length a → is_bad_name a ≡ true
long_name a long = ap (λ b. b || has_byte 0 a) (second (is_dots a) _ (has_byte 47 a) (too_long a long))

pub long_attribute : (a : List ℕ) → 255 < length a → is_bad_attribute a ≡ true
long_attribute a long = second (length a == 0) _ (has_byte 0 a) (too_long a long)

absent : (b : Bool) → (b ≡ true → ⊥) → not b ≡ true
absent true h = absurd (h refl)
absent false h = refl

-- no inode has an attribute of a name that is too long
pub no_long_attribute : (t : Nodes) → IsTree t → (i : ℕ) (n : Node) (a : List ℕ) → map.get t.nodes i ≡ Some n → 255 < length a → test_at (λ n. not (map.contains_key n.attributes a)) t i ≡ true
no_long_attribute t tree i n a here long =
    ap (λ o. option_map_or (λ (n : Node). not (map.contains_key n.attributes a)) o false) here
    ∙ absent (map.contains_key n.attributes a) (λ has. let good = (tree.inner_names i n here).attributes a has in let bad = long_attribute a long in cc)

-- nor a snapshot of such a name
pub no_long_snapshot : (t : Nodes) → IsTree t → (i : ℕ) (n : Node) (a : List ℕ) → map.get t.nodes i ≡ Some n → 255 < length a → test_at (λ n. not (set.contains n.snapshots a)) t i ≡ true
no_long_snapshot t tree i n a here long =
    ap (λ o. option_map_or (λ (n : Node). not (set.contains n.snapshots a)) o false) here
    ∙ absent (set.contains n.snapshots a) (λ has. let good = (tree.inner_names i n here).snapshots a has in let bad = long_name a long in cc)
