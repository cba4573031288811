-- The text of a value whose numbers are whole ones tells which value it is.
use Rattle.std.proofs.Common.{◌≡◌, ℕ, ◌+◌, ◌≤◌, List, [], ◌++◌, Option, Some, sym, refl, ap, ap₂, ◌∙◌, append_assoc, append-nil, arith}
use Rattle.std.specs.Prelude.{codes, unwrap_or}
use Rattle.std.proofs.lemmas.List.{append_cancel_right}
use Rattle.json.specs.Json as json
use Rattle.json.specs.Lex.{tokens}
use Rattle.json.specs.Token.{Token}
use Rattle.json.specs.Tree.{HasNumbers, ItemsHaveNumbers, MembersHaveNumbers, depth, json_tokens}
use Rattle.json.proofs.Found.{Some_inj}
use Rattle.json.proofs.Printed.Decimals.{IsNumber-decimal}
use Rattle.json.proofs.Printed.Tokens.{tokens-print}
use Rattle.json.proofs.Printed.Trees.{ArePrintable-json_tokens, value-json_tokens}
use Rattle.serde_json.specs.Data.{Data, Items, Members, Num, array, boolean, float, item, member, negative, no_items, no_members, null, number, object, string, unsigned}
use Rattle.serde_json.specs.Read.{number_of}
use Rattle.serde_json.specs.Written.{compact_text, items_outline, members_outline, number_text, outline}
use Rattle.serde_json.proofs.Numbers.{number_of-decimal}
use Rattle.serde_json.proofs.Texts.{print-outline}
use Rattle.texts.proofs.Quoted.{parted_at}
use Rattle.texts.proofs.Streams.{in_value, is_inside}
use Rattle.texts.specs.Values.{HasWholeNumbers, IsWhole, ItemsHaveWholeNumbers, MembersHaveWholeNumbers, json_line}

-- ---- the value of an outline

abbrev number_in : List ℕ → Num
number_in text = unwrap_or (number_of text) (unsigned 0)

abbrev mutual
  value_in : json.Json → Data
  value_in json.null = null
  value_in (json.boolean b) = boolean b
  value_in (json.number text) = number (number_in text)
  value_in (json.string text) = string text
  value_in (json.array js) = array (items_in js)
  value_in (json.object ms) = object (members_in ms)

  items_in : json.Items → Items
  items_in json.no_items = no_items
  items_in (json.item j js) = item (value_in j) (items_in js)

  members_in : json.Members → Members
  members_in json.no_members = no_members
  members_in (json.member key j ms) = member key (value_in j) (members_in ms)

same_number : (n : Num) → IsWhole n → number_in (number_text n) ≡ n
same_number (unsigned n) small = ap (λ (o : Option Num). unwrap_or o (unsigned 0)) (number_of-decimal n small)
same_number (negative z) whole = absurd whole
same_number (float x) whole = absurd whole

mutual
  same_value : (d : Data) → HasWholeNumbers d → value_in (outline d) ≡ d
  same_value null whole = refl
  same_value (boolean b) whole = refl
  same_value (number n) whole = ap number (same_number n whole)
  same_value (string text) whole = refl
  same_value (array ds) whole = ap array (same_items ds whole)
  same_value (object ms) whole = ap object (same_members ms whole)

  same_items : (ds : Items) → ItemsHaveWholeNumbers ds → items_in (items_outline ds) ≡ ds
  same_items no_items whole = refl
  same_items (item d ds) whole = ap₂ item (same_value d whole.0) (same_items ds whole.1)

  same_members : (ms : Members) → MembersHaveWholeNumbers ms → members_in (members_outline ms) ≡ ms
  same_members no_members whole = refl
  same_members (member key d ms) whole = ap₂ (member key) (same_value d whole.0) (same_members ms whole.1)

-- ---- the outline of a text

number_is : (n : Num) → IsWhole n → HasNumbers (json.number (number_text n))
number_is (unsigned n) small = IsNumber-decimal n small
number_is (negative z) whole = absurd whole
number_is (float x) whole = absurd whole

mutual
  have_numbers : (d : Data) → HasWholeNumbers d → HasNumbers (outline d)
  have_numbers null whole = tt
  have_numbers (boolean b) whole = tt
  have_numbers (number n) whole = number_is n whole
  have_numbers (string text) whole = tt
  have_numbers (array ds) whole = items_have_numbers ds whole
  have_numbers (object ms) whole = members_have_numbers ms whole

  items_have_numbers : (ds : Items) → ItemsHaveWholeNumbers ds → ItemsHaveNumbers (items_outline ds)
  items_have_numbers no_items whole = tt
  items_have_numbers (item d ds) whole = (have_numbers d whole.0, items_have_numbers ds whole.1)

  members_have_numbers : (ms : Members) → MembersHaveWholeNumbers ms → MembersHaveNumbers (members_outline ms)
  members_have_numbers no_members whole = tt
  members_have_numbers (member key d ms) whole = (have_numbers d whole.0, members_have_numbers ms whole.1)

tokens_of : (d : Data) → HasWholeNumbers d → tokens (compact_text d) ≡ json_tokens (outline d)
tokens_of d whole = ap tokens (sym (print-outline d)) ∙ tokens-print (json_tokens (outline d)) (ArePrintable-json_tokens (outline d) (have_numbers d whole))

parsed : (j : json.Json) (most : ℕ) → depth j ≤ most → json.value most (json_tokens j) ≡ Some (j, [])
parsed j most deep = ap (json.value most) (sym (append-nil (json_tokens j))) ∙ value-json_tokens j most [] deep

one_tree : (j k : json.Json) → json_tokens j ≡ json_tokens k → j ≡ k
one_tree j k same =
    let most : ℕ = depth j + depth k in
    let left : json.Json × List Token = (j, []) in
    let right : json.Json × List Token = (k, []) in
    let both : Some left ≡ Some right = sym (parsed j most (omega arith)) ∙ ap (json.value most) same ∙ parsed k most (omega arith) in
    ap (λ (p : json.Json × List Token). p.0) (Some_inj left right both)

-- ---- one value

one_text : (d e : Data) → HasWholeNumbers d → HasWholeNumbers e → compact_text d ≡ compact_text e → d ≡ e
one_text d e whole also same =
    let tree : outline d ≡ outline e = one_tree (outline d) (outline e) (sym (tokens_of d whole) ∙ ap tokens same ∙ tokens_of e also) in
    sym (same_value d whole) ∙ ap value_in tree ∙ same_value e also

pub one_line : (d e : Data) (s t : List ℕ) → HasWholeNumbers d → HasWholeNumbers e → json_line d ++ s ≡ json_line e ++ t → (d ≡ e) × (s ≡ t)
one_line d e s t whole also same =
    let both = parted_at is_inside 10 (compact_text d) (compact_text e) s t refl (in_value d) (in_value e) (sym (append_assoc (compact_text d) (codes "\n") s) ∙ same ∙ append_assoc (compact_text e) (codes "\n") t) in
    (one_text d e whole also both.0, both.1)

pub one_value : (d e : Data) → HasWholeNumbers d → HasWholeNumbers e → json_line d ≡ json_line e → d ≡ e
one_value d e whole also same = one_text d e whole also (append_cancel_right (compact_text d) (compact_text e) (codes "\n") same)
