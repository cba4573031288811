-- What stands in a block that was filled.
use Rattle.std.proofs.Common.{◌≡◌, ◌⊎◌, ℕ, ◌+◌, ◌<◌, ◌≤◌, suc, false, eqb, not, List, [], ◌∷◌, ◌++◌, length, take, drop, get_or, Option, Some, None, Result}
use Rattle.std.proofs.Common.{Ok, Err, refl, sym, ap, subst, ◌∙◌, inl, inr, append_assoc, arith, All}
use Rattle.std.specs.Prelude.{filter_map, ◌==◌, IsTrue}
use Rattle.std.specs.List.{AllByRecursion}
use Rattle.std.proofs.lemmas.Bool.{ne_eqb}
use Rattle.std.proofs.lemmas.List.{append-nil, length-take, take-append-drop, take_more}
use Rattle.std.proofs.lemmas.List.Concat.{flat_map-append}
use Rattle.std.proofs.lemmas.List.Elements.{All-cons, All-nil}
use Rattle.std.proofs.Math.Seq.{drop-append_seam, take-append_seam}
use Rattle.capspec.specs.declared.grant.Grant.{Grant}
use Rattle.byte_sets.specs.Sets.{is_mark}
use Rattle.capspec.specs.Grants.{AreWordsOf, IsGrant, IsSaidOnce, Reads, fsname_in, gids_in, path_in}
use Rattle.capspec.specs.Items.{IsItem, Item}
use Rattle.capspec.specs.Items.Item.{FsName, Gids, Path, RootSquash, Uid}
use Rattle.capspec.specs.Paths.{are_few_and_short, names_of, slashed}
use Rattle.capspec.specs.Separated.{AreSeparated}
use Rattle.capspec.proofs.Written.{given}
use Rattle.capgrant.specs.declared.answer.Verdict.{Verdict}
use Rattle.capffi.specs.declared.block.Block.{Block}
use Rattle.capffi.specs.declared.block.Entry.{Entry}
use Rattle.capffi.specs.declared.filling.Ready.{Ready}
use Rattle.capffi.specs.declared.passed.Question.{Question}
use Rattle.capffi.specs.declared.trouble.Trouble.{Trouble}
use Rattle.capffi.specs.declared.trouble.Trouble.TheVariants as troubles
use Rattle.capffi.proofs.Bare.{names_back}
use Rattle.capffi.specs.Blocks.{IsBlock, bare_names, flags_of, grant_of, grants_in, path_names, unless_zero}
use Rattle.capffi.specs.ByBlock.{IsBlockJudged, IsBlockJudgedOf, IsBlockJudgedOn, IsBlockTrouble, IsNumberTrouble}
use Rattle.capffi.specs.Texts.{IsPut}
use Rattle.capffi.specs.Filling.{AreEntriesOf, CanBeWritten, IsEntryOf, IsNoneOrSome, IsPutInBlock, Says, block_text, fs_text, text_of, texts_of}

-- ---- a block can say each grant of a text

-- what items say of a field has what each item's word gives it
all_said : {A : Type 0} (says : Item → Option A) (P : A → Type 0) → ((word : List ℕ) (item : Item) (x : A) → IsItem word item → says item ≡ Some x → P x) → (words : List ℕ) (items : List Item) → AreWordsOf words items → AllByRecursion P (filter_map says items)
all_said says P each words [] are = tt
all_said says P each words (item ∷ items) are =
    elim (given (says item)) [
      | inl none ↦ rw none (all_said says P each are.2 items are.6)
      | inr (x, some) ↦ rw some (each are.1 item x are.5 some, all_said says P each are.2 items are.6)
    ]

field_has : {A : Type 0} (P : A → Type 0) (default : A) (found : List A) (field : A) → P default → AllByRecursion P found → IsSaidOnce default found field → P field
field_has P default [] field has all is = subst P (sym is) has
field_has P default (s ∷ []) field has all is = subst P (sym is) all.0
field_has P default (s ∷ t ∷ more) field has all is = absurd is

abbrev HasNames : List (List ℕ) → Type 0
HasNames names = path_names (slashed names) ≡ names

abbrev AreFew : List ℕ → Type 0
AreFew gids = length gids ≤ 16

path_item : (word : List ℕ) (item : Item) (names : List (List ℕ)) → IsItem word item → path_in item ≡ Some names → HasNames names
path_item word (FsName name) names is says = absurd (cc)
path_item word (Path path) names is says =
    let same : names_of is.2.0 ≡ names = sym is.2.2 ∙ cc in
    subst HasNames same (names_back is.2.0)
path_item word (Uid uid) names is says = absurd (cc)
path_item word (Gids gids) names is says = absurd (cc)
path_item word RootSquash names is says = absurd (cc)

gids_item : (word : List ℕ) (item : Item) (gids : List ℕ) → IsItem word item → gids_in item ≡ Some gids → AreFew gids
gids_item word (FsName name) gids is says = absurd (cc)
gids_item word (Path path) gids is says = absurd (cc)
gids_item word (Uid uid) gids is says = absurd (cc)
gids_item word (Gids listed) gids is says = let same : listed ≡ gids = cc in subst AreFew same is.2.1
gids_item word RootSquash gids is says = absurd (cc)

fsname_item : (word : List ℕ) (item : Item) (name : Option (List ℕ)) → IsItem word item → fsname_in item ≡ Some name → IsNoneOrSome name
fsname_item word (FsName None) name is says = let same : None ≡ name = cc in subst IsNoneOrSome same tt
fsname_item word (FsName (Some bytes)) name is says = let same : Some bytes ≡ name = cc in subst IsNoneOrSome same is.2.1.some
fsname_item word (Path path) name is says = absurd (cc)
fsname_item word (Uid uid) name is says = absurd (cc)
fsname_item word (Gids gids) name is says = absurd (cc)
fsname_item word RootSquash name is says = absurd (cc)

grant_can : (text : List ℕ) (g : Grant) → IsGrant text g → CanBeWritten g
grant_can text g is = record {
  path = field_has HasNames [] (filter_map path_in is.items) g.path refl (all_said path_in HasNames path_item is.words is.items is.are_words) is.are_items.path;
  fsname = field_has IsNoneOrSome None (filter_map fsname_in is.items) g.fsname tt (all_said fsname_in IsNoneOrSome fsname_item is.words is.items is.are_words) is.are_items.fsname;
  gids = field_has AreFew [] (filter_map gids_in is.items) g.gids (omega arith) (all_said gids_in AreFew gids_item is.words is.items is.are_words) is.are_items.gids;
}

all_can : (text : List ℕ) (grants : List Grant) → AreSeparated is_mark IsGrant text grants → All CanBeWritten grants
all_can text [] row = absurd row
all_can text (g ∷ []) row = All-cons CanBeWritten g [] (grant_can text g row) (All-nil CanBeWritten)
all_can text (g ∷ h ∷ more) row = All-cons CanBeWritten g (h ∷ more) (grant_can row.0 g row.5) (all_can row.1 (h ∷ more) row.6)

pub read_can : (text : List ℕ) (grants : List Grant) → Reads text grants → All CanBeWritten grants
read_can text grants reads = all_can text grants reads.are_grants

-- ---- entries say their grants

pub entry_more : (entries : List Entry) (grants : List Grant) (e : Entry) (g : Grant) → AreEntriesOf entries grants → IsEntryOf e g → AreEntriesOf (entries ++ e ∷ []) (grants ++ g ∷ [])
entry_more [] [] e g are is = (is, tt)
entry_more [] (h ∷ grants) e g are is = absurd are
entry_more (d ∷ entries) [] e g are is = absurd are
entry_more (d ∷ entries) (h ∷ grants) e g are is = (are.0, entry_more entries grants e g are.1 is)

pub as_many : (entries : List Entry) (grants : List Grant) → AreEntriesOf entries grants → length entries ≡ length grants
as_many [] [] are = refl
as_many [] (h ∷ grants) are = absurd are
as_many (d ∷ entries) [] are = absurd are
as_many (d ∷ entries) (h ∷ grants) are = ap suc (as_many entries grants are.1)

front : (xs ys : List ℕ) (n : ℕ) → n ≡ length xs → take n (xs ++ ys) ≡ xs
front xs ys n is = rw is (take-append_seam xs ys)

back : (xs ys : List ℕ) (n : ℕ) → n ≡ length xs → drop n (xs ++ ys) ≡ ys
back xs ys n is = rw is (drop-append_seam xs ys)

pub found : (entries : List Entry) (grants : List Grant) (more : List ℕ) → AreEntriesOf entries grants → grants_in entries (texts_of grants ++ more) ≡ grants
found [] [] more are = refl
found [] (g ∷ grants) more are = absurd are
found (e ∷ entries) [] more are = absurd are
found (e ∷ entries) (g ∷ grants) more are =
    let rest : List ℕ = texts_of grants ++ more in
    let all : texts_of (g ∷ grants) ++ more ≡ slashed g.path ++ (fs_text g.fsname ++ rest) = simp append_assoc in
    let path : take e.path_len (slashed g.path ++ (fs_text g.fsname ++ rest)) ≡ slashed g.path = front (slashed g.path) (fs_text g.fsname ++ rest) e.path_len are.0.path_len in
    let behind_path : drop e.path_len (slashed g.path ++ (fs_text g.fsname ++ rest)) ≡ fs_text g.fsname ++ rest = back (slashed g.path) (fs_text g.fsname ++ rest) e.path_len are.0.path_len in
    let fs : take e.fs_len (fs_text g.fsname ++ rest) ≡ fs_text g.fsname = front (fs_text g.fsname) rest e.fs_len are.0.fs_len in
    let last : drop e.fs_len (fs_text g.fsname ++ rest) ≡ rest = back (fs_text g.fsname) rest e.fs_len are.0.fs_len in
    rw (all, path, behind_path, fs, last) (rw (are.0.grant, found entries grants more are.1) refl)

-- ---- an entry says its grant

fs_means : (name : Option (List ℕ)) (n : ℕ) → IsNoneOrSome name → n ≡ length (fs_text name) → unless_zero n (fs_text name) ≡ name
fs_means None n some is = rw is refl
fs_means (Some []) n some is = absurd (omega (arith, some))
fs_means (Some (b ∷ bs)) n some is =
    let more : eqb n 0 ≡ false = ne_eqb n 0 (λ (e : n ≡ 0). omega (arith, is, e)) in
    rw more refl

pub entry_means : (e : Entry) (g : Grant) → CanBeWritten g → flags_of e.flags ≡ g.flags → e.fs_len ≡ length (fs_text g.fsname) → unless_zero e.has_uid e.uid ≡ g.uid → take e.gid_count e.gids ≡ g.gids → not (e.root_squash == 0) ≡ g.root_squash → grant_of e (slashed g.path) (fs_text g.fsname) ≡ g
entry_means e g can flags fs uid gids squash = rw (flags, fs_means g.fsname e.fs_len can.fsname fs, can.path, uid, gids, squash) refl

-- ---- one grant more

one_more : (grants : List Grant) (i : ℕ) (g : Grant) → i < length grants → g ≡ get_or grants i g → take (i + 1) grants ≡ take i grants ++ g ∷ []
one_more grants i g within is = take_more grants i g within ∙ ap (λ (x : Grant). take i grants ++ x ∷ []) (sym is)

pub text_more : (fs text : List ℕ) (grants : List Grant) (i : ℕ) (g : Grant) → i < length grants → g ≡ get_or grants i g → text ≡ fs ++ texts_of (take i grants) → (text ++ slashed g.path) ++ fs_text g.fsname ≡ fs ++ texts_of (take (i + 1) grants)
text_more fs text grants i g within is so =
    let all : texts_of (take (i + 1) grants) ≡ texts_of (take i grants) ++ texts_of (g ∷ []) = ap texts_of (one_more grants i g within is) ∙ flat_map-append text_of (take i grants) (g ∷ []) in
    rw (so, all) (simp (append_assoc, append-nil))

pub entries_more : (entries : List Entry) (grants : List Grant) (i : ℕ) (e : Entry) (g : Grant) → i < length grants → g ≡ get_or grants i g → AreEntriesOf entries (take i grants) → IsEntryOf e g → AreEntriesOf (entries ++ e ∷ []) (take (i + 1) grants)
entries_more entries grants i e g within is are more = subst (AreEntriesOf (entries ++ e ∷ [])) (sym (one_more grants i g within is)) (entry_more entries (take i grants) e g are more)

-- ---- what was put says the grants

pub no_room : (form before after : List ℕ) (len reported : ℕ) → IsPut form before after len reported → (reported == 0) ≡ false → reported ≡ 11
no_room form before after len reported put other = elim put.1 [
  | inl fits ↦ absurd (let no : (0 == 0) ≡ false = rw fits.1 at other in cc)
  | inr short ↦ short.1
]

says : (ready : Ready) (new : Block) (before after fs : List ℕ) (grants : List Grant) → length grants ≤ 16 → ready.fs_len ≡ length fs → ready.text.items ≡ block_text fs grants → AreEntriesOf ready.entries.items grants
    → length ready.text.items ≤ length before → take (length ready.text.items) after ≡ ready.text.items
    → new.version ≡ 1 → new.count ≡ length ready.entries.items → new.text_len ≡ length ready.text.items → new.fs_len ≡ ready.fs_len → take new.count new.entries ≡ ready.entries.items → Says new after fs grants
says ready new before after fs grants few fs_len text are fits front_is version count text_len new_fs entries =
    let rest : List ℕ = drop (length ready.text.items) after in
    let parts : after ≡ fs ++ (texts_of grants ++ rest) = sym (take-append-drop (length ready.text.items) after) ∙ ap (λ (t : List ℕ). t ++ rest) (front_is ∙ text) ∙ append_assoc fs (texts_of grants) rest in
    let fs_is : new.fs_len ≡ length fs = new_fs ∙ fs_len in
    record {
      is_block = (version, omega (arith, count, as_many ready.entries.items grants are, few), omega (arith, text_len, ap length front_is, length-take (length ready.text.items) after));
      is_fs = ap (take new.fs_len) parts ∙ front fs (texts_of grants ++ rest) new.fs_len fs_is;
      are_grants = rw (entries, parts, back fs (texts_of grants ++ rest) new.fs_len fs_is) (found ready.entries.items grants rest are);
    }

pub filled : (ready : Ready) (old new : Block) (before after fs : List ℕ) (grants : List Grant) (len reported : ℕ) → length grants ≤ 16 → ready.fs_len ≡ length fs → ready.text.items ≡ block_text fs grants → AreEntriesOf ready.entries.items grants → IsPutInBlock ready old new before after len reported
    → IsPut (block_text fs grants) before after len reported × (((reported ≡ 0) × Says new after fs grants) ⊎ ((reported ≡ 11) × (new ≡ old)))
filled ready old new before after fs grants len reported few fs_len text are put = (
  subst (λ (t : List ℕ). IsPut t before after len reported) text put.0,
  elim put.1 [
    | inl done ↦ elim put.0.1 [
      | inl fits ↦ inl (done.0, says ready new before after fs grants few fs_len text are fits.0 fits.2.front done.1 done.2 done.3 done.4 done.5)
      | inr short ↦ absurd (omega (arith, done.0, short.1))
    ]
    | inr none ↦ inr none
  ],
)

-- ---- what is said of a path's names is said of its text

number_trouble : (block : Block) (text : List ℕ) (path : List (List ℕ)) (groups : List ℕ) (q : Question) (trouble : Trouble) → IsBlock block text → length groups ≤ 16 → IsTrue (are_few_and_short path) → IsNumberTrouble q trouble → IsBlockTrouble block text path groups q trouble
number_trouble block text path groups q troubles.Block whole few fit is = absurd is
number_trouble block text path groups q troubles.Groups whole few fit is = absurd is
number_trouble block text path groups q troubles.Path whole few fit is = absurd is
number_trouble block text path groups q troubles.Memory whole few fit is = absurd is
number_trouble block text path groups q (troubles.Grants fault) whole few fit is = absurd is
number_trouble block text path groups q troubles.Fs whole few fit is = absurd is
number_trouble block text path groups q troubles.Mode whole few fit is = (whole, few, fit, is)
number_trouble block text path groups q troubles.Access whole few fit is = (whole, few, fit, is)
number_trouble block text path groups q troubles.Part whole few fit is = absurd is
number_trouble block text path groups q troubles.State whole few fit is = absurd is
number_trouble block text path groups q troubles.Head whole few fit is = absurd is
number_trouble block text path groups q troubles.Caps whole few fit is = absurd is

said_on : (block : Block) (text : List ℕ) (path : List (List ℕ)) (groups : List ℕ) (q : Question) (reported : Result Verdict Trouble) → IsBlock block text → length groups ≤ 16 → IsTrue (are_few_and_short path) → IsBlockJudgedOf block text path groups q reported → IsBlockJudgedOn block text path groups q reported
said_on block text path groups q (Ok verdict) whole few fit is = (whole, few, fit, is)
said_on block text path groups q (Err trouble) whole few fit is = number_trouble block text path groups q trouble whole few fit is

pub said_of_text : (block : Block) (text path groups bare : List ℕ) (q : Question) (reported : Result Verdict Trouble) → IsBlock block text → length groups ≤ 16 → IsTrue (are_few_and_short (names_of path)) → bare_names bare ≡ names_of path → IsBlockJudgedOf block text (bare_names bare) groups q reported → IsBlockJudged block text path groups q reported
said_of_text block text path groups bare q reported whole few fit same is =
    said_on block text (names_of path) groups q reported whole few fit (subst (λ (names : List (List ℕ)). IsBlockJudgedOf block text names groups q reported) same is)

-- what stands behind the first slash of a path that was read has its names
pub names_of_read : (path bytes bare : List ℕ) (names : List (List ℕ)) → names ≡ names_of path → bytes ≡ slashed names → bare ≡ drop 1 bytes → bare_names bare ≡ names
names_of_read path bytes bare names read is behind =
    ap bare_names behind ∙ ap path_names is ∙ ap (λ (ns : List (List ℕ)). path_names (slashed ns)) read ∙ names_back path ∙ sym read
