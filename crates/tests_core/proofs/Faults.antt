-- The first fault of a text, derived test by test.
use Rattle.std.specs.Prelude.{◌≡◌, ◌<◌, ◌-◌, ◌==◌, ℕ, zero, suc, ◌+◌, Bool, true, false, ◌||◌, None, Ok, Err, List, [], ◌∷◌, ◌++◌, length, get_or, codes}
use Rattle.std.specs.Prelude.{bytes_eq, refl, IsTrue, IsFalse}
use Rattle.std.specs.List.{list_all, list_any}
use Rattle.std.proofs.Common.{arith, inl, inr, lit<, lit≤, ap, sym, ◌∙◌, true≢false}
use Rattle.capspec.specs.declared.flags.Flags4.{Flags4}
use Rattle.capspec.specs.declared.flags.Flags4.TheVariants.{R, Rw, Rwp, Rwps, Rws}
use Rattle.capspec.specs.Flags.{IsFlags}
use Rattle.capspec.specs.declared.fault.SpecFaultKind.{SpecFaultKind}
use Rattle.capspec.specs.declared.fault.SpecFaultKind.TheVariants as kinds
use Rattle.capspec.specs.declared.grant.Grant.{Grant}
use Rattle.byte_sets.specs.Sets.{is_bare_path_byte, is_white}
use Rattle.capspec.specs.Faults.{GrantGives, GrantsGive, IsFault, ItemsGive, fault_at, grant_ends, next_grant, next_item, right_grant, stood, wrong_first}
use Rattle.capspec.specs.Faults.{wrong_grant, wrong_item, wrong_items, wrong_second}
use Rattle.capspec.specs.Grants.{AreItemsOf}
use Rattle.capspec.specs.Items.{IsNumber, IsPlainOrQuoted, IsValue, Item, key_of, key_text}
use Rattle.capspec.specs.Items.Item.{FsName, Gids, Path, RootSquash, Uid}
use Rattle.capspec.specs.Words.{BeginsWithItem, IsKeyed, IsWrongItem, IsWrongOther, plain_word}
use Rattle.capspec.proofs.Drafting.{no_key}
use Rattle.tests_core.specs.GrantTexts.{behind_others, fault}
use Rattle.tests_core.specs.Verdicts.{allow}

-- ---- what is not so

-- a test that two equal values answer differently
told_apart : {A : Type 0} (test : A → Bool) (x y : A) → x ≡ y → IsFalse (test x) → IsTrue (test y) → ⊥
told_apart test x y e f t = true≢false (sym t ∙ (sym (ap test e) ∙ f))

is_flag_word : List ℕ → Bool
is_flag_word word = list_any (bytes_eq word) (codes "r" ∷ codes "rw" ∷ codes "rwp" ∷ codes "rws" ∷ codes "rwps" ∷ codes "*" ∷ codes "all" ∷ [])

-- a word that is none of the seven
no_flags : (word : List ℕ) → IsFalse (is_flag_word word) → (flags : Flags4) → IsFlags word flags → ⊥
unfolding is_flag_word
no_flags word none R e = told_apart is_flag_word word (codes "r") e none refl
no_flags word none Rw e = told_apart is_flag_word word (codes "rw") e none refl
no_flags word none Rwp e = told_apart is_flag_word word (codes "rwp") e none refl
no_flags word none Rws e = told_apart is_flag_word word (codes "rws") e none refl
no_flags word none Rwps (inl e) = told_apart is_flag_word word (codes "rwps") e none refl
no_flags word none Rwps (inr (inl e)) = told_apart is_flag_word word (codes "*") e none refl
no_flags word none Rwps (inr (inr e)) = told_apart is_flag_word word (codes "all") e none refl

-- a byte with which the text of a key begins
begins_key : List ℕ → Bool
begins_key [] = false
begins_key (b ∷ bs) = list_any (λ c. c == b) (codes "fpugr")

one_of_five : (text : List ℕ) → IsFalse (begins_key text) → (k : ℕ) → k < 5 → (value : List ℕ)
    → IsKeyed (get_or (key_of (Path []) ∷ key_of (Uid 0) ∷ key_of (Gids []) ∷ key_of (FsName None) ∷ key_of RootSquash ∷ []) k (key_of RootSquash)) text value → ⊥
unfolding begins_key
one_of_five text none zero _ value is = told_apart begins_key text _ is.parts none refl
one_of_five text none (suc zero) _ value is = told_apart begins_key text _ is.parts none refl
one_of_five text none (suc (suc zero)) _ value is = told_apart begins_key text _ is.parts none refl
one_of_five text none (suc (suc (suc zero))) _ value is = told_apart begins_key text _ is.parts none refl
one_of_five text none (suc (suc (suc (suc zero)))) _ value is = told_apart begins_key text _ is.parts none refl
one_of_five text none (suc (suc (suc (suc (suc k))))) few value is = absurd (omega (arith, few))

-- a text that begins with no key
unkeyed : (text : List ℕ) → IsFalse (begins_key text) → (kind : SpecFaultKind) → IsWrongOther (plain_word text) kind → IsWrongItem (stood []) text kind
unkeyed text none kind wrong = inl (no_key text 5 (lit≤ tt) (one_of_five text none), wrong)

-- a text behind a key that has a value
keyed : (item : Item) (text value : List ℕ) → IsFalse (stood (RootSquash ∷ []) (key_of item)) → text ≡ key_text (key_of item) ++ value → IsKeyed (key_of item) text value
keyed item text value other parts = record { parts = parts; whole = λ e. absurd (told_apart (stood (RootSquash ∷ [])) _ _ e other refl) }

-- ---- one grant

allowed_first : (0 < 16) × (codes "allow" ≡ codes "allow")
allowed_first = (lit< tt, refl)

-- a text whose first grant is wrong
first_grant : (text left : List ℕ) (kind : SpecFaultKind) → IsFalse (list_all is_white text) → GrantGives 0 text (Err (fault_at left kind)) → IsFault text (fault kind (length text - length left))
first_grant text left kind some wrong = (fault_at left kind, inr (some, wrong_grant wrong), refl)

pub blank_text : IsFault (codes "   ") (fault kinds.Empty 3)
blank_text = (fault_at [] kinds.Empty, inl (refl, refl), refl)

pub empty_text : IsFault [] (fault kinds.Empty 0)
empty_text = (fault_at [] kinds.Empty, inl (refl, refl), refl)

pub bad_flags : IsFault (codes "allow rwsp") (fault kinds.BadFlags 6)
unfolding is_flag_word
bad_flags = first_grant _ (codes "rwsp") kinds.BadFlags refl (wrong_second allowed_first (no_flags _ refl, refl))

pub left_out_flag : IsFault (codes "allow rwf") (fault kinds.LeftOut 6)
unfolding is_flag_word
left_out_flag = first_grant _ (codes "rwf") kinds.LeftOut refl (wrong_second allowed_first (no_flags _ refl, refl))

-- a text that begins with `allow rw ` and is wrong in its items
wrong_behind : (behind left : List ℕ) (kind : SpecFaultKind) → ItemsGive [] None (codes " " ++ behind) (Err (fault_at left kind)) → IsFault (codes "allow rw " ++ behind) (fault kind (length (codes "allow rw " ++ behind) - length left))
wrong_behind behind left kind wrong = first_grant _ left kind refl (wrong_items Rw allowed_first refl wrong)

pub left_out_item : IsFault (codes "allow rw network 10.0.0.0/8") (fault kinds.LeftOut 9)
unfolding begins_key
left_out_item = wrong_behind (codes "network 10.0.0.0/8") (codes "network 10.0.0.0/8") kinds.LeftOut (wrong_item refl (unkeyed _ refl _ (inl (refl, refl))))

is_network : List ℕ → Bool
is_network word = bytes_eq word (codes "network")

pub bad_item : IsFault (codes "allow rw quota") (fault kinds.BadItem 9)
unfolding begins_key is_network
bad_item = wrong_behind (codes "quota") (codes "quota") kinds.BadItem (wrong_item refl (unkeyed _ refl _ (inr ((λ e. told_apart is_network _ _ e refl refl), refl))))

pub open_quote : IsFault (codes "allow rw path=\"/a") (fault kinds.OpenQuote 9)
open_quote = wrong_behind (codes "path=\"/a") (codes "path=\"/a") kinds.OpenQuote (wrong_item refl (inr (key_of (Path []), codes "\"/a", keyed (Path []) _ _ refl refl, refl)))

-- ---- values

too_large : (item : Item) → key_of item ≡ key_of (Uid 0) → IsValue (codes "4294967296") item → ⊥
too_large (FsName name) e is = told_apart (stood (Uid 0 ∷ [])) _ _ e refl refl
too_large (Path names) e is = told_apart (stood (Uid 0 ∷ [])) _ _ e refl refl
too_large (Uid n) e is = let large : 4294967296 ≡ n = is.value in omega (arith, large, is.small)
too_large (Gids gids) e is = told_apart (stood (Uid 0 ∷ [])) _ _ e refl refl
too_large RootSquash e is = told_apart (stood (Uid 0 ∷ [])) _ _ e refl refl

pub bad_number : IsFault (codes "allow rw uid=4294967296") (fault kinds.BadNumber 9)
bad_number = wrong_behind (codes "uid=4294967296") (codes "uid=4294967296") kinds.BadNumber (wrong_item refl (inr (key_of (Uid 0), codes "4294967296", keyed (Uid 0) _ _ refl refl, (too_large, refl))))

begins_with_quote : List ℕ → Bool
begins_with_quote [] = false
begins_with_quote (b ∷ bs) = (b == 34) || (b == 39)

no_such_path : (path : List ℕ) → IsPlainOrQuoted (codes "/a*") path → ⊥
unfolding begins_with_quote
no_such_path path (inl bare) = true≢false (sym bare.all_in ∙ ap (list_all is_bare_path_byte) (sym bare.same))
no_such_path path (inr (inl quoted)) = told_apart begins_with_quote _ _ quoted.parts refl refl
no_such_path path (inr (inr quoted)) = told_apart begins_with_quote _ _ quoted.parts refl refl

no_path : (item : Item) → key_of item ≡ key_of (Path []) → IsValue (codes "/a*") item → ⊥
no_path (FsName name) e is = told_apart (stood (Path [] ∷ [])) _ _ e refl refl
no_path (Path names) e is = no_such_path is.0 is.1.written
no_path (Uid n) e is = told_apart (stood (Path [] ∷ [])) _ _ e refl refl
no_path (Gids gids) e is = told_apart (stood (Path [] ∷ [])) _ _ e refl refl
no_path RootSquash e is = told_apart (stood (Path [] ∷ [])) _ _ e refl refl

pub bad_path : IsFault (codes "allow rw path=/a*") (fault kinds.BadPath 9)
bad_path = wrong_behind (codes "path=/a*") (codes "path=/a*") kinds.BadPath (wrong_item refl (inr (key_of (Path []), codes "/a*", keyed (Path []) _ _ refl refl, (no_path, refl))))

-- one digit
pub one_is : IsNumber (codes "1") 1
one_is = record { numeral = (lit< tt, (lit< tt, tt)); value = refl; small = lit< tt }

begins_with_gids : BeginsWithItem (codes "gids=1") (Gids (1 ∷ [])) []
begins_with_gids = record {
  takes = (record { front = codes "gids=1"; parts = refl; holds = (codes "1", refl, (one_is, lit≤ tt)) }, refl);
  whole = λ _. refl;
}

pub gids_without_uid : IsFault (codes "allow rw gids=1") (fault kinds.GidsWithoutUid 9)
gids_without_uid = wrong_behind (codes "gids=1") (codes "gids=1") kinds.GidsWithoutUid (next_item (Gids (1 ∷ [])) [] refl refl begins_with_gids (grant_ends refl))

begins_with_uid : BeginsWithItem (codes "uid=1 uid=2") (Uid 1) (codes " uid=2")
begins_with_uid = record {
  takes = (record { front = codes "uid=1"; parts = refl; holds = (codes "1", refl, one_is) }, refl);
  whole = λ e. absurd (told_apart (stood (Gids [] ∷ [])) _ _ e refl refl);
}

pub twice : IsFault (codes "allow rw uid=1 uid=2") (fault kinds.Twice 15)
twice = wrong_behind (codes "uid=1 uid=2") (codes "uid=2") kinds.Twice (next_item (Uid 1) (codes " uid=2") refl refl begins_with_uid (wrong_item refl (inr (key_of (Uid 0), codes "2", keyed (Uid 0) _ _ refl refl, refl))))

-- ---- many grants

pub right_items : AreItemsOf [] (allow R)
right_items = record { fsname = refl; path = refl; uid = refl; gids = refl; root_squash = refl; gids_with_uid = λ _. refl }

-- `allow r` in front of a comma
read_only : (before : ℕ) (rest : List ℕ) → before < 16 → GrantGives before (codes "allow r," ++ rest) (Ok (allow R, codes "," ++ rest))
read_only before rest few = right_grant [] (few, refl) refl (grant_ends refl) right_items

one_more : (grants : List Grant) (rest left : List ℕ) (kind : SpecFaultKind) → length grants < 16 → GrantsGive (grants ++ allow R ∷ []) rest (Err (fault_at left kind)) → GrantsGive grants (codes "allow r," ++ rest) (Err (fault_at left kind))
one_more grants rest left kind few on = next_grant (allow R) 44 rest (read_only (length grants) rest few) on

is_nothing : List ℕ → Bool
is_nothing [] = true
is_nothing (b ∷ bs) = false

pub not_allow : IsFault (codes "allow r,") (fault kinds.NotAllow 8)
unfolding is_nothing
not_allow = (fault_at [] kinds.NotAllow, inr (refl, one_more [] [] [] kinds.NotAllow (lit< tt) (wrong_grant (wrong_first (inr (lit< tt, (λ e. told_apart is_nothing (codes "allow") [] (sym e) refl refl), refl))))), refl)

length_more : (grants : List Grant) → length (grants ++ allow R ∷ []) ≡ suc (length grants)
length_more [] = refl
length_more (g ∷ grants) = ap suc (length_more grants)

-- with so many still to come, and sixteen in all
all_of_them : (n : ℕ) (grants : List Grant) → n + length grants ≡ 16 → GrantsGive grants (behind_others n) (Err (fault_at (codes "allow r") kinds.TooMany))
all_of_them zero grants e = wrong_grant (wrong_first (inl (omega (arith, e), refl)))
all_of_them (suc n) grants e = one_more grants (behind_others n) (codes "allow r") kinds.TooMany (omega (arith, e)) (all_of_them n (grants ++ allow R ∷ []) (omega (arith, e, length_more grants)))

pub too_many : IsFault (behind_others 16) (fault kinds.TooMany 128)
too_many = (fault_at (codes "allow r") kinds.TooMany, inr (refl, all_of_them 16 [] refl), refl)
