-- Items that are added to a draft, one after the other.
use Rattle.std.proofs.Common.{◌≡◌, ℕ, ◌<◌, ◌≤◌, true, false, List, [], ◌∷◌, ◌++◌, get_or, inr, arith, Result, Ok, Err, refl, sym, ap, subst, ◌∙◌, append_assoc}
use Rattle.std.proofs.Common.{Bor}
use Rattle.std.specs.Prelude.{IfErr, IfOk, IsTrue}
use Rattle.capspec.specs.declared.draft.Draft.{Draft}
use Rattle.capspec.specs.declared.fault.SpecFaultKind.{SpecFaultKind}
use Rattle.capspec.specs.declared.fault.SpecFaultKind.TheVariants as kinds
use Rattle.capspec.specs.declared.items.Key.{Key}
use Rattle.capspec.specs.declared.items.Key.TheVariants as keys
use Rattle.capspec.specs.Words.{IsKeyed, IsWrongItem, IsWrongValue}
use Rattle.capspec.specs.Bytes.{TakesWord, ends_word}
use Rattle.capspec.specs.Paths.{names_of}
use Rattle.capspec.specs.Items.{IsPath, IsValue, key_text}
use Rattle.capspec.specs.Items.Item.{Path, RootSquash}
use Rattle.capspec.specs.Draft.{AddsItem, AddsValue, has}

-- no key of all five
pub no_key : (text : List ℕ) (index : ℕ) → 5 ≤ index → ((k : ℕ) → k < index → (value : List ℕ) → IsKeyed (get_or (keys.Path ∷ keys.Uid ∷ keys.Gids ∷ keys.FsName ∷ keys.RootSquash ∷ []) k keys.RootSquash) text value → ⊥)
    → (key : Key) (value : List ℕ) → IsKeyed key text value → ⊥
no_key text index all none keys.Path value keyed = none 0 (omega arith) value keyed
no_key text index all none keys.Uid value keyed = none 1 (omega arith) value keyed
no_key text index all none keys.Gids value keyed = none 2 (omega arith) value keyed
no_key text index all none keys.FsName value keyed = none 3 (omega arith) value keyed
no_key text index all none keys.RootSquash value keyed = none 4 (omega arith) value keyed

pub wrong_value : (old : Draft) (key : Key) (text value : List ℕ) (r : Result (Bor (List ℕ)) SpecFaultKind) → IsKeyed key text value → has old key ≡ false → IfErr r (IsWrongValue key value) → IfErr r (IsWrongItem (has old) text)
wrong_value old key text value (Ok rest) keyed unseen wrong = tt
wrong_value old key text value (Err kind) keyed unseen wrong = inr (key, value, keyed, rw unseen wrong)

pub wrong_again : (old : Draft) (key : Key) (text value : List ℕ) → IsKeyed key text value → has old key ≡ true → IsWrongItem (has old) text kinds.Twice
wrong_again old key text value keyed seen = inr (key, value, keyed, rw seen refl)

pub takes_path : (path text rest : List ℕ) → TakesWord (λ value. IsPath value path) text rest → TakesWord (λ value. IsValue value (Path (names_of path))) text rest
takes_path path text rest taken = (record { front = taken.0.front; parts = taken.0.parts; holds = (path, taken.0.holds, refl) }, taken.1)

pub takes_nothing : (text : List ℕ) → IsTrue (ends_word text) → TakesWord (λ value. IsValue value RootSquash) text text
takes_nothing text ends = (record { front = []; parts = refl; holds = refl }, ends)

-- a key, and the value behind it
pub adds_item : (old new : Draft) (key : Key) (text value : List ℕ) (r : Result (Bor (List ℕ)) SpecFaultKind) → text ≡ key_text key ++ value → has old key ≡ false
    → IfOk r (λ rest. AddsValue old key value rest.now new) → IfOk r (λ rest. AddsItem old text rest.now new)
adds_item old new key text value (Ok rest) parts unseen added = record {
  item = added.item;
  new_key = subst (λ (k : Key). has old k ≡ false) (sym added.key_is) unseen;
  begins = record {
    takes = (
      record {
        front = key_text key ++ added.takes.0.front;
        parts = parts ∙ ap (λ (s : List ℕ). key_text key ++ s) added.takes.0.parts ∙ sym (append_assoc (key_text key) added.takes.0.front rest.now);
        holds = (added.takes.0.front, ap (λ (k : Key). key_text k ++ added.takes.0.front) (sym added.key_is), added.takes.0.holds);
      },
      added.takes.1,
    );
    whole = added.whole;
  };
  adds = added.adds;
}
adds_item old new key text value (Err kind) parts unseen added = tt
