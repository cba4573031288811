-- The items of a grant as words, read from the left.
use Rattle.std.proofs.Common.{◌≡◌, ℕ, ◌<◌, ◌≤◌, Bool, true, false, not, ◌||◌, ◌&&◌, List, [], ◌∷◌, ◌++◌, length, Option, Some, None, Result, Ok, Err, refl}
use Rattle.std.proofs.Common.{sym, ap, subst, ◌∙◌, inl, inr, append_assoc, arith, length-append, Bor}
use Rattle.std.specs.Prelude.{IsTrue, filter_map, if◌then◌else◌, is_some, unwrap_or}
use Rattle.std.specs.Option.{option_map, option_to_list}
use Rattle.std.proofs.lemmas.Bool.{not-false, true≢false}
use Rattle.std.proofs.lemmas.List.{append-nil}
use Rattle.std.proofs.lemmas.List.Elements.{filter_map-append}
use Rattle.byte_sets.specs.declared.sets.ByteSet.TheVariants.{White}
use Rattle.capspec.specs.declared.draft.Draft.{Draft}
use Rattle.capspec.specs.declared.fault.SpecFaultKind.{SpecFaultKind}
use Rattle.capspec.specs.declared.fault.SpecFaultKind.TheVariants as kinds
use Rattle.capspec.specs.declared.flags.Flags4.{Flags4}
use Rattle.capspec.specs.declared.items.Key.{Key}
use Rattle.capspec.specs.declared.items.Key.TheVariants as keys
use Rattle.capspec.specs.declared.reading.Refusal.{Refusal}
use Rattle.capspec.specs.Words.{BeginsWithItem, IsWrongItem, next}
use Rattle.capspec.specs.Faults.{ItemsGive, fault_at, gids_item, grant_end, grant_ends, is_said, next_item, stood, wrong_item}
use Rattle.capspec.proofs.Fronts.{split_rest, which}
use Rattle.byte_sets.specs.Sets.{SplitsWhile, is_mark, is_white}
use Rattle.capspec.specs.Bytes.{ends_grant, ends_word}
use Rattle.capspec.specs.Draft.{Adds, AddsItem, grant_of, has, names_in, no_items}
use Rattle.capspec.specs.Grants.{AreItemsOf, AreWordsOf, IsGap, IsSaidOnce, fsname_in, gids_in, path_in, root_squash_in, uid_in}
use Rattle.capspec.specs.Items.{IsItem, Item, key_of}
use Rattle.capspec.specs.Items.Item.{FsName, Gids, Path, RootSquash, Uid}
use Rattle.capspec.specs.Paths.{names_of}
use Rattle.capspec.specs.Parts.{ReadsItems}

neither : (a b : Bool) → (a || b) ≡ true → a ≡ false → b ≡ false → ⊥
neither true b h a-no b-no = true≢false a-no
neither false b h a-no b-no = true≢false (sym h ∙ b-no)

-- between a word's end and the next word stands white space
some_gap : (rest gap item : List ℕ) → SplitsWhile White rest gap item → ends_word rest ≡ true → ends_grant item ≡ false → 0 < length gap
some_gap rest (g ∷ gap) item cut ends goes_on = omega arith
some_gap rest [] [] cut ends goes_on = absurd (true≢false goes_on)
some_gap rest [] (b ∷ bs) cut ends goes_on =
    absurd (neither (is_white b) (is_mark b) (subst (λ (t : List ℕ). ends_word t ≡ true) cut.parts ends) cut.longest goes_on)

-- one word more
words_more : (words gap word : List ℕ) (items : List Item) (item : Item) → AreWordsOf words items → IsGap gap → IsItem word item → AreWordsOf (words ++ (gap ++ word)) (items ++ item ∷ [])
words_more words gap word [] item are is_gap is = (gap, word, [], ap (λ (t : List ℕ). t ++ (gap ++ word)) are ∙ sym (ap (λ (t : List ℕ). gap ++ t) (append-nil word)), is_gap, is, refl)
words_more words gap word (first ∷ items) item are is_gap is =
    (are.0, are.1, are.2 ++ (gap ++ word), ap (λ (t : List ℕ). t ++ (gap ++ word)) are.3 ∙ simp append_assoc, are.4, are.5, words_more are.2 gap word items item are.6 is_gap is)

-- what the items have said is in the draft
pub record HasItems (items : List Item) (draft : Draft) : Type 0 where
  pub fsname : filter_map fsname_in items ≡ option_to_list draft.fsname
  pub path : filter_map path_in items ≡ option_to_list (names_in draft)
  pub uid : filter_map uid_in items ≡ option_to_list (option_map (λ uid. Some uid) draft.uid)
  pub gids : filter_map gids_in items ≡ option_to_list draft.gids
  pub root_squash : filter_map root_squash_in items ≡ (if draft.root_squash then true ∷ [] else [])

has_none : (flags : Flags4) → HasItems [] (no_items flags)
has_none flags = record { fsname = refl; path = refl; uid = refl; gids = refl; root_squash = refl }

pub kept : {A : Type 0} (says : Item → Option A) (items : List Item) (item : Item) (said : List A) → says item ≡ None → filter_map says items ≡ said → filter_map says (items ++ item ∷ []) ≡ said
kept says items item said none so_far = filter_map-append says items (item ∷ []) ∙ rw none (append-nil (filter_map says items) ∙ so_far)

added : {A : Type 0} (says : Item → Option A) (items : List Item) (item : Item) (value : A) → says item ≡ Some value → filter_map says items ≡ [] → filter_map says (items ++ item ∷ []) ≡ value ∷ []
added says items item value one so_far = filter_map-append says items (item ∷ []) ∙ rw (one, so_far) refl

unsaid : {A : Type 0} (o : Option A) (said : List A) → is_some o ≡ false → said ≡ option_to_list o → said ≡ []
unsaid None said none e = e
unsaid (Some x) said none e = absurd (true≢false none)

unsaid_of : {A B : Type 0} (f : A → B) (o : Option A) (said : List B) → is_some o ≡ false → said ≡ option_to_list (option_map f o) → said ≡ []
unsaid_of f None said none e = e
unsaid_of f (Some x) said none e = absurd (true≢false none)

has_more : (items : List Item) (item : Item) (old new : Draft) → HasItems items old → has old (key_of item) ≡ false → Adds old item new → HasItems (items ++ item ∷ []) new
has_more items (FsName name) old new so_far unseen adds =
    let it = FsName name in
    subst (HasItems (items ++ it ∷ [])) (sym adds) (record {
      fsname = added fsname_in items it name refl (unsaid old.fsname _ unseen so_far.fsname);
      path = kept path_in items it _ refl so_far.path;
      uid = kept uid_in items it _ refl so_far.uid;
      gids = kept gids_in items it _ refl so_far.gids;
      root_squash = kept root_squash_in items it _ refl so_far.root_squash;
    })
has_more items (Path names) old new so_far unseen adds =
    let it = Path names in
    subst (HasItems (items ++ it ∷ [])) (sym adds.1) (record {
      fsname = kept fsname_in items it _ refl so_far.fsname;
      path = added path_in items it names refl (unsaid_of (λ path. names_of path.now) old.path _ unseen so_far.path) ∙ ap option_to_list (sym adds.0);
      uid = kept uid_in items it _ refl so_far.uid;
      gids = kept gids_in items it _ refl so_far.gids;
      root_squash = kept root_squash_in items it _ refl so_far.root_squash;
    })
has_more items (Uid uid) old new so_far unseen adds =
    let it = Uid uid in
    subst (HasItems (items ++ it ∷ [])) (sym adds) (record {
      fsname = kept fsname_in items it _ refl so_far.fsname;
      path = kept path_in items it _ refl so_far.path;
      uid = added uid_in items it (Some uid) refl (unsaid_of (λ uid. Some uid) old.uid _ unseen so_far.uid);
      gids = kept gids_in items it _ refl so_far.gids;
      root_squash = kept root_squash_in items it _ refl so_far.root_squash;
    })
has_more items (Gids gids) old new so_far unseen adds =
    let it = Gids gids in
    subst (HasItems (items ++ it ∷ [])) (sym adds) (record {
      fsname = kept fsname_in items it _ refl so_far.fsname;
      path = kept path_in items it _ refl so_far.path;
      uid = kept uid_in items it _ refl so_far.uid;
      gids = added gids_in items it gids refl (unsaid old.gids _ unseen so_far.gids);
      root_squash = kept root_squash_in items it _ refl so_far.root_squash;
    })
has_more items RootSquash old new so_far unseen adds =
    let it = RootSquash in
    subst (HasItems (items ++ it ∷ [])) (sym adds) (record {
      fsname = kept fsname_in items it _ refl so_far.fsname;
      path = kept path_in items it _ refl so_far.path;
      uid = kept uid_in items it _ refl so_far.uid;
      gids = kept gids_in items it _ refl so_far.gids;
      root_squash = added root_squash_in items it true refl (so_far.root_squash ∙ rw unseen refl);
    })

once : {A : Type 0} (default : A) (said : List A) (o : Option A) → said ≡ option_to_list o → IsSaidOnce default said (unwrap_or o default)
once default said None e = subst (λ (s : List _). IsSaidOnce default s default) (sym e) refl
once default said (Some x) e = subst (λ (s : List _). IsSaidOnce default s x) (sym e) refl

uid_once : (said : List (Option ℕ)) (o : Option ℕ) → said ≡ option_to_list (option_map (λ uid. Some uid) o) → IsSaidOnce None said o
uid_once said None e = subst (λ (s : List (Option ℕ)). IsSaidOnce None s None) (sym e) refl
uid_once said (Some uid) e = subst (λ (s : List (Option ℕ)). IsSaidOnce None s (Some uid)) (sym e) refl

squash_once : (said : List Bool) (b : Bool) → said ≡ (if b then true ∷ [] else []) → IsSaidOnce false said b
squash_once said true e = subst (λ (s : List Bool). IsSaidOnce false s true) (sym e) refl
squash_once said false e = subst (λ (s : List Bool). IsSaidOnce false s false) (sym e) refl

-- gids are listed beside a uid alone
with_uid : (uid : Option ℕ) (gids : Option (List ℕ)) (said : List (Option ℕ)) (listed : List (List ℕ)) → said ≡ option_to_list (option_map (λ uid. Some uid) uid) → listed ≡ option_to_list gids
    → (is_some gids && not (is_some uid)) ≡ false → said ≡ [] → listed ≡ []
with_uid (Some uid) gids said listed said-is listed-is both none = absurd (cc)
with_uid None None said listed said-is listed-is both none = listed-is
with_uid None (Some gids) said listed said-is listed-is both none = absurd (true≢false both)

all_items : (items : List Item) (draft : Draft) → HasItems items draft → (is_some draft.gids && not (is_some draft.uid)) ≡ false → AreItemsOf items (grant_of draft)
all_items items draft has_them both = record {
  fsname = once None _ draft.fsname has_them.fsname;
  path = once [] _ (names_in draft) has_them.path;
  uid = uid_once _ draft.uid has_them.uid;
  gids = once [] _ draft.gids has_them.gids;
  root_squash = squash_once _ draft.root_squash has_them.root_squash;
  gids_with_uid = with_uid draft.uid draft.gids _ _ has_them.uid has_them.gids both;
}

-- ---- the loop over the items of a grant

said_of : {A : Type 0} (o : Option A) (said : List A) → said ≡ option_to_list o → is_said said ≡ is_some o
said_of None said e = ap is_said e
said_of (Some x) said e = ap is_said e

uid_said_of : (o : Option ℕ) (said : List (Option ℕ)) → said ≡ option_to_list (option_map (λ uid. Some uid) o) → is_said said ≡ is_some o
uid_said_of None said e = ap is_said e
uid_said_of (Some x) said e = ap is_said e

path_said_of : (o : Option (Bor (List ℕ))) (said : List (List (List ℕ))) → said ≡ option_to_list (option_map (λ path. names_of path.now) o) → is_said said ≡ is_some o
path_said_of None said e = ap is_said e
path_said_of (Some x) said e = ap is_said e

squash_said_of : (b : Bool) (said : List Bool) → said ≡ (if b then true ∷ [] else []) → is_said said ≡ b
squash_said_of true said e = ap is_said e
squash_said_of false said e = ap is_said e

-- the draft has the keys that stood
pub stood_is : (items : List Item) (draft : Draft) → HasItems items draft → (key : Key) → stood items key ≡ has draft key
stood_is items draft has_them keys.FsName = said_of draft.fsname _ has_them.fsname
stood_is items draft has_them keys.Path = path_said_of draft.path _ has_them.path
stood_is items draft has_them keys.Uid = uid_said_of draft.uid _ has_them.uid
stood_is items draft has_them keys.Gids = said_of draft.gids _ has_them.gids
stood_is items draft has_them keys.RootSquash = squash_said_of draft.root_squash _ has_them.root_squash

-- the text from the gids item on, if the draft has one
abbrev pub place_of_gids : Draft → List ℕ → Option (List ℕ)
place_of_gids draft from = if is_some draft.gids then Some from else None

same_place : (draft new : Draft) (before after : List ℕ) → new.gids ≡ draft.gids → (is_some draft.gids ≡ true → after ≡ before) → place_of_gids new after ≡ place_of_gids draft before
same_place draft new before after same stays = elim (which (is_some draft.gids)) [
  | inl e ↦ ap (λ (g : Option (List ℕ)). if is_some g then Some after else None) same ∙ rw e (ap Some (stays e))
  | inr e ↦ ap (λ (g : Option (List ℕ)). if is_some g then Some after else None) same ∙ rw e refl
]

place_more : (draft new : Draft) (item : Item) (from before after : List ℕ) → Adds draft item new → has draft (key_of item) ≡ false → (is_some draft.gids ≡ true → after ≡ before) → (is_some draft.gids ≡ false → after ≡ from)
    → place_of_gids new after ≡ gids_item (place_of_gids draft before) item from
place_more draft new (FsName name) from before after adds unseen stays moves = same_place draft new before after (ap (λ (d : Draft). d.gids) adds) stays
place_more draft new (Path names) from before after adds unseen stays moves = same_place draft new before after (ap (λ (d : Draft). d.gids) adds.1) stays
place_more draft new (Uid uid) from before after adds unseen stays moves = same_place draft new before after (ap (λ (d : Draft). d.gids) adds) stays
place_more draft new (Gids gids) from before after adds unseen stays moves = ap (λ (d : Draft). place_of_gids d after) adds ∙ ap Some (moves unseen)
place_more draft new RootSquash from before after adds unseen stays moves = same_place draft new before after (ap (λ (d : Draft). d.gids) adds) stays

-- what was read of them, up to a place where a word can end
pub record IsDrafting (old : Draft) (text rest gids_item : List ℕ) (draft : Draft) : Type 0 where
  pub words : List ℕ
  pub items : List Item
  pub parts : text ≡ words ++ rest
  pub are_words : AreWordsOf words items
  pub has_items : HasItems items draft
  pub same_flags : draft.flags ≡ old.flags
  pub ends : IsTrue (ends_word rest)
  pub within : length gids_item ≤ length text
  pub gives : (result : Result (List Item × List ℕ) Refusal) → ItemsGive items (place_of_gids draft gids_item) rest result → ItemsGive [] None text result

pub drafting_none : (old : Draft) (text : List ℕ) → old ≡ no_items old.flags → IsTrue (ends_word text) → IsDrafting old text text text old
drafting_none old text new ends = record {
  words = [];
  items = [];
  parts = refl;
  are_words = refl;
  has_items = subst (HasItems []) (sym new) (has_none old.flags);
  same_flags = refl;
  ends = ends;
  within = omega arith;
  gives = λ result on. subst (λ (o : Option (List ℕ)). ItemsGive [] o text result) (ap (λ (d : Draft). place_of_gids d text) new) on;
}

adds_flags : (old new : Draft) (item : Item) → Adds old item new → new.flags ≡ old.flags
adds_flags old new (FsName name) adds = ap (λ (d : Draft). d.flags) adds
adds_flags old new (Path names) adds = ap (λ (d : Draft). d.flags) adds.1
adds_flags old new (Uid uid) adds = ap (λ (d : Draft). d.flags) adds
adds_flags old new (Gids gids) adds = ap (λ (d : Draft). d.flags) adds
adds_flags old new RootSquash adds = ap (λ (d : Draft). d.flags) adds

pub item_within : (text rest gap item : List ℕ) (old draft : Draft) (gids_item : List ℕ) → IsDrafting old text rest gids_item draft → SplitsWhile White rest gap item → length item ≤ length text
item_within text rest gap item old draft gids_item so_far cut =
    omega (arith, ap length so_far.parts, ap length cut.parts, length-append so_far.words rest, length-append gap item)

pub drafting_more : (old draft new : Draft) (text rest gap item after gids_item gids_item' : List ℕ) → IsDrafting old text rest gids_item draft → SplitsWhile White rest gap item → ends_grant item ≡ false
    → AddsItem draft item after new → length gids_item' ≤ length text → (is_some draft.gids ≡ true → gids_item' ≡ gids_item) → (is_some draft.gids ≡ false → gids_item' ≡ item) → IsDrafting old text after gids_item' new
drafting_more old draft new text rest gap item after place place' so_far cut goes_on adds within stays moves = record {
  words = so_far.words ++ (gap ++ adds.begins.takes.0.front);
  items = so_far.items ++ adds.item ∷ [];
  parts = so_far.parts ∙ ap (λ (t : List ℕ). so_far.words ++ t) (cut.parts ∙ ap (λ (t : List ℕ). gap ++ t) adds.begins.takes.0.parts) ∙ simp append_assoc;
  are_words = words_more so_far.words gap adds.begins.takes.0.front so_far.items adds.item so_far.are_words (cut.all_in, some_gap rest gap item cut so_far.ends goes_on) adds.begins.takes.0.holds;
  has_items = has_more so_far.items adds.item draft new so_far.has_items adds.new_key adds.adds;
  same_flags = adds_flags draft new adds.item adds.adds ∙ so_far.same_flags;
  ends = adds.begins.takes.1;
  within = within;
  gives = λ result on.
      let here : next rest ≡ item = split_rest White rest gap item cut in
      let moved : place_of_gids new place' ≡ gids_item (place_of_gids draft place) adds.item (next rest) =
      place_more draft new adds.item item place place' adds.adds adds.new_key stays moves ∙ ap (gids_item (place_of_gids draft place) adds.item) (sym here) in
      so_far.gives result
      (next_item adds.item after (ap ends_grant here ∙ goes_on) (stood_is so_far.items draft so_far.has_items (key_of adds.item) ∙ adds.new_key)
      (subst (λ (t : List ℕ). BeginsWithItem t adds.item after) (sym here) adds.begins)
      (subst (λ (o : Option (List ℕ)). ItemsGive (so_far.items ++ adds.item ∷ []) o after result) moved on));
}

right_end : (draft : Draft) (items : List Item) (place rest : List ℕ) → stood items keys.Uid ≡ is_some draft.uid → (is_some draft.gids && not (is_some draft.uid)) ≡ false → grant_end items (place_of_gids draft place) rest ≡ Ok (items, rest)
right_end draft items place rest same both = elim (which (is_some draft.gids)) [
  | inl e ↦
      let uid : is_some draft.uid ≡ true = not-false _ (rw e at both) in
      rw (e, same, uid) refl
  | inr e ↦ rw e refl
]

wrong_end : (draft : Draft) (items : List Item) (place rest : List ℕ) → stood items keys.Uid ≡ is_some draft.uid → is_some draft.gids ≡ true → is_some draft.uid ≡ false → grant_end items (place_of_gids draft place) rest ≡ Err (fault_at place kinds.GidsWithoutUid)
wrong_end draft items place rest same listed alone = rw (listed, same, alone) refl

ends_give : (items : List Item) (place : Option (List ℕ)) (rest item : List ℕ) → next rest ≡ item → ends_grant item ≡ true → (result : Result (List Item × List ℕ) Refusal) → grant_end items place item ≡ result → ItemsGive items place rest result
ends_give items place rest item here ends result is = subst (ItemsGive items place rest) (ap (grant_end items place) here ∙ is) (grant_ends (ap ends_grant here ∙ ends))

pub drafting_done : (old draft : Draft) (text rest gap item gids_item : List ℕ) → IsDrafting old text rest gids_item draft → SplitsWhile White rest gap item → ends_grant item ≡ true
    → (is_some draft.gids && not (is_some draft.uid)) ≡ false → ReadsItems old text item draft
drafting_done old draft text rest gap item gids_item so_far cut ends both = record {
  words = so_far.words;
  after = gap;
  items = so_far.items;
  parts = so_far.parts ∙ ap (λ (t : List ℕ). so_far.words ++ t) cut.parts;
  are_words = so_far.are_words;
  blank_after = cut.all_in;
  ends = ends;
  same_flags = so_far.same_flags;
  are_items = all_items so_far.items draft so_far.has_items both;
  gives = so_far.gives (Ok (so_far.items, item)) (ends_give so_far.items (place_of_gids draft gids_item) rest item (split_rest White rest gap item cut) ends
      (Ok (so_far.items, item)) (right_end draft so_far.items gids_item item (stood_is so_far.items draft so_far.has_items keys.Uid) both));
}

-- a grant that lists gids beside no uid
pub gids_alone_wrong : (old draft : Draft) (text rest gap item gids_item : List ℕ) → IsDrafting old text rest gids_item draft → SplitsWhile White rest gap item → ends_grant item ≡ true
    → is_some draft.gids ≡ true → is_some draft.uid ≡ false → ItemsGive [] None text (Err (fault_at gids_item kinds.GidsWithoutUid))
gids_alone_wrong old draft text rest gap item place so_far cut ends listed alone =
    so_far.gives (Err (fault_at place kinds.GidsWithoutUid)) (ends_give so_far.items (place_of_gids draft place) rest item (split_rest White rest gap item cut) ends
    (Err (fault_at place kinds.GidsWithoutUid)) (wrong_end draft so_far.items place item (stood_is so_far.items draft so_far.has_items keys.Uid) listed alone))

same_tests : (stands other : Key → Bool) (text : List ℕ) (kind : SpecFaultKind) → ((key : Key) → stands key ≡ other key) → IsWrongItem other text kind → IsWrongItem stands text kind
same_tests stands other text kind same (inl unknown) = inl unknown
same_tests stands other text kind same (inr (key, value, keyed, wrong)) = inr (key, value, keyed, rw same wrong)

pub item_wrong : (old draft : Draft) (text rest gap item gids_item : List ℕ) (kind : SpecFaultKind) → IsDrafting old text rest gids_item draft → SplitsWhile White rest gap item → ends_grant item ≡ false
    → IsWrongItem (has draft) item kind → ItemsGive [] None text (Err (fault_at item kind))
item_wrong old draft text rest gap item place kind so_far cut goes_on wrong =
    let here : next rest ≡ item = split_rest White rest gap item cut in
    so_far.gives (Err (fault_at item kind)) (subst (λ (t : List ℕ). ItemsGive so_far.items (place_of_gids draft place) rest (Err (fault_at t kind))) here
    (wrong_item (ap ends_grant here ∙ goes_on) (subst (λ (t : List ℕ). IsWrongItem (stood so_far.items) t kind) (sym here) (same_tests (stood so_far.items) (has draft) item kind (stood_is so_far.items draft so_far.has_items) wrong))))
