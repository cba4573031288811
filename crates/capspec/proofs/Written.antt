-- The written form of grants reads as these grants.
use Rattle.std.proofs.Common.{◌≡◌, ◌≢◌, ◌⊎◌, ℕ, ◌<◌, ◌≤◌, ◌^◌, Bool, true, false, List, [], ◌∷◌, ◌++◌, length, Option, Some, None, refl, sym, ap, subst, ◌∙◌}
use Rattle.std.proofs.Common.{inl, inr, append_assoc, arith, length-append}
use Rattle.std.specs.Prelude.{IsTrue, codes, filter_map}
use Rattle.std.specs.Fmt.{decimal}
use Rattle.std.specs.List.{AllByRecursion, join_by}
use Rattle.std.proofs.lemmas.Fmt.{decimal_is_IsNumeral}
use Rattle.std.proofs.lemmas.List.{append-nil}
use Rattle.std.proofs.lemmas.List.Elements.{filter_map-append}
use Rattle.capspec.specs.declared.flags.Flags4.{Flags4}
use Rattle.capspec.specs.declared.flags.Flags4.TheVariants.{R, Rw, Rwp, Rwps, Rws}
use Rattle.capspec.specs.declared.grant.Grant.{Grant}
use Rattle.byte_sets.specs.Sets.{is_mark}
use Rattle.capspec.specs.Flags.{IsFlags, flags_text}
use Rattle.capspec.specs.Grants.{AreItemsOf, AreNoneOrRead, AreWordsOf, IsGrant, IsSaidOnce, Reads, fsname_in, gids_in, path_in, root_squash_in, uid_in}
use Rattle.capspec.specs.Items.{IsItem, IsNumber, Item, is_comma}
use Rattle.capspec.specs.Items.Item.{FsName, Gids, Path, RootSquash, Uid}
use Rattle.capspec.specs.Names.{IsFsName}
use Rattle.capspec.specs.Paths.{slashed}
use Rattle.capspec.specs.Separated.{AreSeparated}
use Rattle.capspec.specs.Written.{fsname_text, gids_text, grant_text, path_text, root_squash_text, uid_text, written, written_path}
use Rattle.capspec.proofs.OneReading.{reads_once}
use Rattle.capspec.proofs.Slashed.{written_value}

-- ---- things in a row, as they are joined

module _ {A : Type 0} (separates : ℕ → Bool) (Is : List ℕ → A → Type 0) (f : A → List ℕ) (mark : ℕ) (gap : List ℕ) where
  row_of : IsTrue (separates mark) → (lead : List ℕ) (x : A) (xs : List A) → Is (lead ++ f x) x → AllByRecursion (λ y. Is (gap ++ f y) y) xs → AreSeparated separates Is (lead ++ join_by f (mark ∷ gap) (x ∷ xs)) (x ∷ xs)
  row_of is_one lead x [] is all = subst (λ (t : List ℕ). Is (lead ++ t) x) (sym (append-nil (f x))) is
  row_of is_one lead x (y ∷ ys) is all = (lead ++ f x, gap ++ join_by f (mark ∷ gap) (y ∷ ys), mark, simp append_assoc, is_one, is, row_of is_one gap y ys all.0 all.1)

-- ---- numbers

decimal_is : (n : ℕ) → n < 2 ^ 32 → IsNumber (decimal n) n
decimal_is n small =
    let is = decimal_is_IsNumeral n (omega arith) in
    record { numeral = is.0; value = is.1; small = small }

decimals_are : (value : List ℕ) (ns : List ℕ) → AreSeparated is_comma IsNumber value ns → AllByRecursion (λ n. IsNumber (decimal n) n) ns
decimals_are value [] row = tt
decimals_are value (n ∷ []) row = (decimal_is n row.small, tt)
decimals_are value (n ∷ m ∷ more) row = (decimal_is n row.5.small, decimals_are row.1 (m ∷ more) row.6)

-- ---- what the items of a grant have said

pub given : {A : Type 0} (o : Option A) → (o ≡ None) ⊎ ((x : A) × (o ≡ Some x))
given None = inl refl
given (Some x) = inr (x, refl)

-- an item of the grant says it
said_by : {A : Type 0} (says : Item → Option A) (words : List ℕ) (items : List Item) (value : A) (more : List A) → AreWordsOf words items → filter_map says items ≡ value ∷ more
    → (word : List ℕ) × (item : Item) × IsItem word item × (says item ≡ Some value)
said_by says words [] value more are said = absurd (cc)
said_by says words (item ∷ items) value more are said =
    elim (given (says item)) [
      | inl none ↦
          let later : filter_map says items ≡ value ∷ more = rw none at said in
          said_by says are.2 items value more are.6 later
      | inr (x, some) ↦
          let first : x ∷ filter_map says items ≡ value ∷ more = rw some at said in
          (are.1, item, are.5, some ∙ cc)
    ]

once : {A : Type 0} (default : A) (said : List A) (field : A) → IsSaidOnce default said field → (field ≡ default) ⊎ (said ≡ field ∷ [])
once default [] field is = inl is
once default (s ∷ []) field is = inr (ap (λ x. x ∷ []) (sym is))
once default (s ∷ t ∷ more) field is = absurd is

-- ---- the words of the items, as they are written

one_word : (word : List ℕ) (item : Item) → IsItem word item → AreWordsOf (32 ∷ word) (item ∷ [])
one_word word item is = (32 ∷ [], word, [], ap (λ (t : List ℕ). 32 ∷ t) (sym (append-nil word)), (refl, omega arith), is, refl)

words_append : (words more : List ℕ) (items others : List Item) → AreWordsOf words items → AreWordsOf more others → AreWordsOf (words ++ more) (items ++ others)
words_append words more [] others are also = subst (λ (t : List ℕ). AreWordsOf (t ++ more) others) (sym are) also
words_append words more (item ∷ items) others are also =
    (are.0, are.1, are.2 ++ more, ap (λ (t : List ℕ). t ++ more) are.3 ∙ simp append_assoc, are.4, are.5, words_append are.2 more items others are.6 also)

abbrev fsname_items : Option (List ℕ) → List Item
fsname_items None = []
fsname_items (Some name) = FsName (Some name) ∷ []

abbrev path_items : List (List ℕ) → List Item
path_items [] = []
path_items (name ∷ names) = Path (name ∷ names) ∷ []

abbrev uid_items : Option ℕ → List Item
uid_items None = []
uid_items (Some uid) = Uid uid ∷ []

abbrev gids_items : List ℕ → List Item
gids_items [] = []
gids_items (gid ∷ gids) = Gids (gid ∷ gids) ∷ []

abbrev root_squash_items : Bool → List Item
root_squash_items false = []
root_squash_items true = RootSquash ∷ []

is_fsname : (word : List ℕ) (item : Item) (name : List ℕ) → IsItem word item → fsname_in item ≡ Some (Some name) → IsFsName name
is_fsname word (FsName None) name is says = absurd (cc)
is_fsname word (FsName (Some other)) name is says = let same : other ≡ name = cc in subst IsFsName same is.2.1
is_fsname word (Path names) name is says = absurd (cc)
is_fsname word (Uid uid) name is says = absurd (cc)
is_fsname word (Gids gids) name is says = absurd (cc)
is_fsname word RootSquash name is says = absurd (cc)

fsname_words : (words : List ℕ) (items : List Item) (fsname : Option (List ℕ)) → AreWordsOf words items → IsSaidOnce None (filter_map fsname_in items) fsname → AreWordsOf (fsname_text fsname) (fsname_items fsname)
fsname_words words items None are is = refl
fsname_words words items (Some name) are is =
    elim (once None (filter_map fsname_in items) (Some name) is) [
      | inl none ↦ absurd (cc)
      | inr said ↦
          let by = said_by fsname_in words items (Some name) [] are said in
          one_word (codes "fsname=" ++ name) (FsName (Some name)) (name, refl, (refl, is_fsname by.0 by.1 name by.2 by.3))
    ]

path_value : (word : List ℕ) (item : Item) (name : List ℕ) (names : List (List ℕ)) → IsItem word item → path_in item ≡ Some (name ∷ names) → IsItem (codes "path=" ++ written_path (slashed (name ∷ names))) (Path (name ∷ names))
path_value word (FsName other) name names is says = absurd (cc)
path_value word (Path others) name names is says =
    let same : name ∷ names ≡ others = cc in
    (written_path (slashed (name ∷ names)), refl, written_value is.0 is.2.0 name names is.2.1 (same ∙ is.2.2))
path_value word (Uid uid) name names is says = absurd (cc)
path_value word (Gids gids) name names is says = absurd (cc)
path_value word RootSquash name names is says = absurd (cc)

path_words : (words : List ℕ) (items : List Item) (path : List (List ℕ)) → AreWordsOf words items → IsSaidOnce [] (filter_map path_in items) path → AreWordsOf (path_text path) (path_items path)
path_words words items [] are is = refl
path_words words items (name ∷ names) are is =
    elim (once [] (filter_map path_in items) (name ∷ names) is) [
      | inl none ↦ absurd (cc)
      | inr said ↦
          let by = said_by path_in words items (name ∷ names) [] are said in
          one_word (codes "path=" ++ written_path (slashed (name ∷ names))) (Path (name ∷ names)) (path_value by.0 by.1 name names by.2 by.3)
    ]

uid_small : (word : List ℕ) (item : Item) (uid : ℕ) → IsItem word item → uid_in item ≡ Some (Some uid) → uid < 2 ^ 32
uid_small word (FsName other) uid is says = absurd (cc)
uid_small word (Path names) uid is says = absurd (cc)
uid_small word (Uid other) uid is says = let same : other ≡ uid = cc in subst (λ (n : ℕ). n < 2 ^ 32) same is.2.small
uid_small word (Gids gids) uid is says = absurd (cc)
uid_small word RootSquash uid is says = absurd (cc)

uid_words : (words : List ℕ) (items : List Item) (uid : Option ℕ) → AreWordsOf words items → IsSaidOnce None (filter_map uid_in items) uid → AreWordsOf (uid_text uid) (uid_items uid)
uid_words words items None are is = refl
uid_words words items (Some uid) are is =
    elim (once None (filter_map uid_in items) (Some uid) is) [
      | inl none ↦ absurd (cc)
      | inr said ↦
          let by = said_by uid_in words items (Some uid) [] are said in
          one_word (codes "uid=" ++ decimal uid) (Uid uid) (decimal uid, refl, decimal_is uid (uid_small by.0 by.1 uid by.2 by.3))
    ]

gids_value : (word : List ℕ) (item : Item) (gid : ℕ) (gids : List ℕ) → IsItem word item → gids_in item ≡ Some (gid ∷ gids) → IsItem (codes "gids=" ++ join_by decimal (codes ",") (gid ∷ gids)) (Gids (gid ∷ gids))
gids_value word (FsName other) gid gids is says = absurd (cc)
gids_value word (Path names) gid gids is says = absurd (cc)
gids_value word (Uid uid) gid gids is says = absurd (cc)
gids_value word (Gids others) gid gids is says =
    let same : others ≡ gid ∷ gids = cc in
    let all : AllByRecursion (λ n. IsNumber (decimal n) n) (gid ∷ gids) = decimals_are is.0 (gid ∷ gids) (subst (λ (ns : List ℕ). AreSeparated is_comma IsNumber is.0 ns) same is.2.0) in
    (join_by decimal (codes ",") (gid ∷ gids), refl, (row_of is_comma IsNumber decimal 44 [] refl [] gid gids all.0 all.1, subst (λ (ns : List ℕ). length ns ≤ 16) same is.2.1))
gids_value word RootSquash gid gids is says = absurd (cc)

gids_words : (words : List ℕ) (items : List Item) (gids : List ℕ) → AreWordsOf words items → IsSaidOnce [] (filter_map gids_in items) gids → AreWordsOf (gids_text gids) (gids_items gids)
gids_words words items [] are is = refl
gids_words words items (gid ∷ gids) are is =
    elim (once [] (filter_map gids_in items) (gid ∷ gids) is) [
      | inl none ↦ absurd (cc)
      | inr said ↦
          let by = said_by gids_in words items (gid ∷ gids) [] are said in
          one_word (codes "gids=" ++ join_by decimal (codes ",") (gid ∷ gids)) (Gids (gid ∷ gids)) (gids_value by.0 by.1 gid gids by.2 by.3)
    ]

root_squash_words : (root_squash : Bool) → AreWordsOf (root_squash_text root_squash) (root_squash_items root_squash)
root_squash_words false = refl
root_squash_words true = one_word (codes "root_squash") RootSquash ([], refl, refl)

-- ---- what these items say

module _ {A : Type 0} (says : Item → Option A) where
  no_fsname : ((name : Option (List ℕ)) → says (FsName name) ≡ None) → (fsname : Option (List ℕ)) → filter_map says (fsname_items fsname) ≡ []
  no_fsname none None = refl
  no_fsname none (Some name) = rw none refl

  no_path : ((names : List (List ℕ)) → says (Path names) ≡ None) → (path : List (List ℕ)) → filter_map says (path_items path) ≡ []
  no_path none [] = refl
  no_path none (name ∷ names) = rw none refl

  no_uid : ((uid : ℕ) → says (Uid uid) ≡ None) → (uid : Option ℕ) → filter_map says (uid_items uid) ≡ []
  no_uid none None = refl
  no_uid none (Some uid) = rw none refl

  no_gids : ((gids : List ℕ) → says (Gids gids) ≡ None) → (gids : List ℕ) → filter_map says (gids_items gids) ≡ []
  no_gids none [] = refl
  no_gids none (gid ∷ gids) = rw none refl

  no_root_squash : says RootSquash ≡ None → (root_squash : Bool) → filter_map says (root_squash_items root_squash) ≡ []
  no_root_squash none false = refl
  no_root_squash none true = rw none refl

  said_in_parts : (a b c d e : List Item) → filter_map says (a ++ (b ++ (c ++ (d ++ e)))) ≡ filter_map says a ++ (filter_map says b ++ (filter_map says c ++ (filter_map says d ++ filter_map says e)))
  said_in_parts a b c d e = simp (filter_map-append)

abbrev items_of : Grant → List Item
items_of g = fsname_items g.fsname ++ (path_items g.path ++ (uid_items g.uid ++ (gids_items g.gids ++ root_squash_items g.root_squash)))

parts_of : {A : Type 0} (says : Item → Option A) (g : Grant)
    → filter_map says (items_of g) ≡ filter_map says (fsname_items g.fsname) ++ (filter_map says (path_items g.path) ++ (filter_map says (uid_items g.uid) ++ (filter_map says (gids_items g.gids) ++ filter_map says (root_squash_items g.root_squash))))
parts_of says g = said_in_parts says (fsname_items g.fsname) (path_items g.path) (uid_items g.uid) (gids_items g.gids) (root_squash_items g.root_squash)

fsname_said : (g : Grant) → filter_map fsname_in (items_of g) ≡ filter_map fsname_in (fsname_items g.fsname)
fsname_said g =
    parts_of fsname_in g
    ∙ rw (no_path fsname_in (λ _. refl) g.path, no_uid fsname_in (λ _. refl) g.uid, no_gids fsname_in (λ _. refl) g.gids, no_root_squash fsname_in refl g.root_squash) (append-nil _)

path_said : (g : Grant) → filter_map path_in (items_of g) ≡ filter_map path_in (path_items g.path)
path_said g =
    parts_of path_in g
    ∙ rw (no_fsname path_in (λ _. refl) g.fsname, no_uid path_in (λ _. refl) g.uid, no_gids path_in (λ _. refl) g.gids, no_root_squash path_in refl g.root_squash) (append-nil _)

uid_said : (g : Grant) → filter_map uid_in (items_of g) ≡ filter_map uid_in (uid_items g.uid)
uid_said g =
    parts_of uid_in g
    ∙ rw (no_fsname uid_in (λ _. refl) g.fsname, no_path uid_in (λ _. refl) g.path, no_gids uid_in (λ _. refl) g.gids, no_root_squash uid_in refl g.root_squash) (append-nil _)

gids_said : (g : Grant) → filter_map gids_in (items_of g) ≡ filter_map gids_in (gids_items g.gids)
gids_said g =
    parts_of gids_in g
    ∙ rw (no_fsname gids_in (λ _. refl) g.fsname, no_path gids_in (λ _. refl) g.path, no_uid gids_in (λ _. refl) g.uid, no_root_squash gids_in refl g.root_squash) (append-nil _)

root_squash_said : (g : Grant) → filter_map root_squash_in (items_of g) ≡ filter_map root_squash_in (root_squash_items g.root_squash)
root_squash_said g =
    parts_of root_squash_in g
    ∙ rw (no_fsname root_squash_in (λ _. refl) g.fsname, no_path root_squash_in (λ _. refl) g.path, no_uid root_squash_in (λ _. refl) g.uid, no_gids root_squash_in (λ _. refl) g.gids) refl

fsname_once : (fsname : Option (List ℕ)) → IsSaidOnce None (filter_map fsname_in (fsname_items fsname)) fsname
fsname_once None = refl
fsname_once (Some name) = refl

path_once : (path : List (List ℕ)) → IsSaidOnce [] (filter_map path_in (path_items path)) path
path_once [] = refl
path_once (name ∷ names) = refl

uid_once : (uid : Option ℕ) → IsSaidOnce None (filter_map uid_in (uid_items uid)) uid
uid_once None = refl
uid_once (Some uid) = refl

gids_once : (gids : List ℕ) → IsSaidOnce [] (filter_map gids_in (gids_items gids)) gids
gids_once [] = refl
gids_once (gid ∷ gids) = refl

root_squash_once : (root_squash : Bool) → IsSaidOnce false (filter_map root_squash_in (root_squash_items root_squash)) root_squash
root_squash_once false = refl
root_squash_once true = refl

-- an item on the uid says which
says_uid : (item : Item) → uid_in item ≡ Some None → ⊥
says_uid (FsName name) says = cc
says_uid (Path names) says = cc
says_uid (Uid uid) says = cc
says_uid (Gids gids) says = cc
says_uid RootSquash says = cc

-- no uid was said
no_uid_said : (words : List ℕ) (items : List Item) (said : List (Option ℕ)) → AreWordsOf words items → said ≡ filter_map uid_in items → IsSaidOnce None said None → said ≡ []
no_uid_said words items [] are same is = refl
no_uid_said words items (s ∷ []) are same is =
    let by = said_by uid_in words items s [] are (sym same) in
    absurd (says_uid by.1 (by.3 ∙ ap Some (sym is)))
no_uid_said words items (s ∷ t ∷ more) are same is = absurd is

no_gids_alone : (words : List ℕ) (items : List Item) (uid : Option ℕ) (gids : List ℕ) → AreWordsOf words items → IsSaidOnce None (filter_map uid_in items) uid → IsSaidOnce [] (filter_map gids_in items) gids
    → (filter_map uid_in items ≡ [] → filter_map gids_in items ≡ []) → filter_map uid_in (uid_items uid) ≡ [] → filter_map gids_in (gids_items gids) ≡ []
no_gids_alone words items (Some uid) gids are is_uid are_gids alone none = absurd (cc)
no_gids_alone words items None gids are is_uid are_gids alone none =
    let no_uid_item : filter_map uid_in items ≡ [] = no_uid_said words items (filter_map uid_in items) are refl is_uid in
    let empty : gids ≡ [] = subst (λ (s : List (List ℕ)). IsSaidOnce [] s gids) (alone no_uid_item) are_gids in
    ap (λ (gs : List ℕ). filter_map gids_in (gids_items gs)) empty

-- ---- grants

flags_written : (flags : Flags4) → IsFlags (flags_text flags) flags
flags_written R = refl
flags_written Rw = refl
flags_written Rwp = refl
flags_written Rws = refl
flags_written Rwps = inl refl

items_written : (text : List ℕ) (g : Grant) → IsGrant text g → AreItemsOf (items_of g) g
items_written text g is = record {
  fsname = rw (fsname_said g) (fsname_once g.fsname);
  path = rw (path_said g) (path_once g.path);
  uid = rw (uid_said g) (uid_once g.uid);
  gids = rw (gids_said g) (gids_once g.gids);
  root_squash = rw (root_squash_said g) (root_squash_once g.root_squash);
  gids_with_uid = λ none.
      gids_said g ∙ no_gids_alone is.words is.items g.uid g.gids is.are_words is.are_items.uid is.are_items.gids is.are_items.gids_with_uid (sym (uid_said g) ∙ none);
}

abbrev words_text : Grant → List ℕ
words_text g = fsname_text g.fsname ++ (path_text g.path ++ (uid_text g.uid ++ (gids_text g.gids ++ root_squash_text g.root_squash)))

words_written : (text : List ℕ) (g : Grant) → IsGrant text g → AreWordsOf (words_text g) (items_of g)
words_written text g is =
    words_append (fsname_text g.fsname) _ (fsname_items g.fsname) _ (fsname_words is.words is.items g.fsname is.are_words is.are_items.fsname)
    (words_append (path_text g.path) _ (path_items g.path) _ (path_words is.words is.items g.path is.are_words is.are_items.path)
    (words_append (uid_text g.uid) _ (uid_items g.uid) _ (uid_words is.words is.items g.uid is.are_words is.are_items.uid)
    (words_append (gids_text g.gids) _ (gids_items g.gids) _ (gids_words is.words is.items g.gids is.are_words is.are_items.gids) (root_squash_words g.root_squash))))

regrouped : (g : Grant) → grant_text g ≡ codes "allow " ++ (flags_text g.flags ++ words_text g)
regrouped g = simp append_assoc

grant_written : (text : List ℕ) (g : Grant) → IsGrant text g → IsGrant (grant_text g) g
grant_written text g is = record {
  before = [];
  gap = 32 ∷ [];
  flags = flags_text g.flags;
  words = words_text g;
  after = [];
  items = items_of g;
  parts = regrouped g ∙ ap (λ (w : List ℕ). codes "allow " ++ (flags_text g.flags ++ w)) (sym (append-nil (words_text g)));
  blank_before = refl;
  is_gap = (refl, omega arith);
  are_flags = flags_written g.flags;
  are_words = words_written text g is;
  are_items = items_written text g is;
  blank_after = refl;
}

behind_space : (text : List ℕ) (g : Grant) → IsGrant text g → IsGrant (32 ∷ text) g
behind_space text g is = record {
  before = 32 ∷ is.before;
  gap = is.gap;
  flags = is.flags;
  words = is.words;
  after = is.after;
  items = is.items;
  parts = ap (λ (t : List ℕ). 32 ∷ t) is.parts;
  blank_before = is.blank_before;
  is_gap = is.is_gap;
  are_flags = is.are_flags;
  are_words = is.are_words;
  are_items = is.are_items;
  blank_after = is.blank_after;
}

-- each grant behind the first, as it is written behind a comma
more_written : (text : List ℕ) (g : Grant) (gs : List Grant) → AreSeparated is_mark IsGrant text (g ∷ gs) → AllByRecursion (λ h. IsGrant (32 ∷ grant_text h) h) gs
more_written text g [] row = tt
more_written text g (h ∷ []) row = (behind_space (grant_text h) h (grant_written row.1 h row.6), tt)
more_written text g (h ∷ i ∷ more) row = (behind_space (grant_text h) h (grant_written row.6.0 h row.6.5), more_written row.1 h (i ∷ more) row.6)

first_written : (text : List ℕ) (g : Grant) (gs : List Grant) → AreSeparated is_mark IsGrant text (g ∷ gs) → IsGrant (grant_text g) g
first_written text g [] row = grant_written text g row
first_written text g (h ∷ more) row = grant_written row.0 g row.5

pub written_reads : (text : List ℕ) (grants : List Grant) → Reads text grants → Reads (written grants) grants
written_reads text [] reads = absurd reads.are_grants
written_reads text (g ∷ gs) reads = record {
  are_grants = row_of is_mark IsGrant grant_text 44 (32 ∷ []) refl [] g gs (first_written text g gs reads.are_grants) (more_written text g gs reads.are_grants);
  few = reads.few;
}

-- nothing does not read
nothing_reads : (grants : List Grant) → Reads [] grants → ⊥
nothing_reads [] reads = reads.are_grants
nothing_reads (g ∷ []) reads = let is : IsGrant [] g = reads.are_grants in omega (arith, ap length is.parts, length-append is.before (codes "allow" ++ (is.gap ++ (is.flags ++ (is.words ++ is.after)))))
nothing_reads (g ∷ h ∷ more) reads = let row = reads.are_grants in omega (arith, ap length row.3, length-append row.0 (row.2 ∷ row.1))

-- what is written of grants that were read, or of none
pub text_reads : (text : List ℕ) (grants : List Grant) → AreNoneOrRead grants → text ≡ written grants → grants ≢ [] → Reads text grants
text_reads text grants (inl none) same some = absurd (some none)
text_reads text grants (inr (from, reads)) same some = subst (λ (t : List ℕ). Reads t grants) (sym same) (written_reads from grants reads)

pub text_reads_once : (text : List ℕ) (grants others : List Grant) → AreNoneOrRead grants → text ≡ written grants → Reads text others → others ≡ grants
text_reads_once text grants others (inl none) same other =
    absurd (nothing_reads others (subst (λ (t : List ℕ). Reads t others) (same ∙ ap written none) other))
text_reads_once text grants others (inr (from, reads)) same other =
    reads_once text others grants other (subst (λ (t : List ℕ). Reads t grants) (sym same) (written_reads from grants reads))
