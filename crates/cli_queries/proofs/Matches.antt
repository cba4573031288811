-- What matches hold, by their rows.
use Rattle.std.proofs.Common.{◌≡◌, ℕ, Bool, true, false, Option, Some, None, List, sym, ap, subst, ◌∙◌}
use Rattle.std.specs.Prelude.{IsFalse, IsSomeAnd, IsTrue, MatchOption, codes, option_map, unwrap_or}
use Rattle.clap.specs.Words.{Row, first_of, first_value, one_of, one_text, rows_of}
use Rattle.clap.specs.declared.parser.matches.Found.{Found}
use Rattle.clap.proofs.WalkLemmas.{first_value-rows, one_text-rows}
use Rattle.cli_queries.specs.Matched.{IsFlag}

pub first_by_rows : (found : Found) (name : List ℕ) → first_of name (rows_of found) ≡ first_value found name
first_by_rows found name = sym (first_value-rows found name)

pub flag_by_rows : (found : Found) (name : List ℕ) (flag : Bool) → (one_text found name ≡ None → flag ≡ false) → (one_text found name ≡ Some (codes "true") → flag ≡ true) → (one_text found name ≡ Some (codes "false") → flag ≡ false) → IsFlag (rows_of found) name flag
flag_by_rows found name flag none on off = by_text (one_of name (rows_of found)) (one_text-rows found name)
  where
    by_text : (text : Option (List ℕ)) → one_text found name ≡ text → MatchOption text (IsFalse flag) (λ text. (text ≡ codes "true" → IsTrue flag) × (text ≡ codes "false" → IsFalse flag))
    by_text None is = none is
    by_text (Some text) is = ((λ same. on (is ∙ ap Some same)), (λ same. off (is ∙ ap Some same)))

-- a command by its name and its words
abbrev name_and_words : {B : Type 0} → (B → List ℕ) → (B → List Row) → B → List ℕ × List Row
name_and_words name_of rows_in b = (name_of b, rows_in b)

-- what holds of the name and the words of a command that was matched holds of its rows
pub asked : {B : Type 0} (command : Option B) (name_of : B → List ℕ) (rows_in : B → List Row) (P : List ℕ → List Row → Type 0) (name : List ℕ) (words : List Row) → Some name ≡ option_map name_of command
    → Some words ≡ option_map (λ (p : List ℕ × List Row). p.1) (option_map (name_and_words name_of rows_in) command) → P name words
    → IsSomeAnd (option_map (name_and_words name_of rows_in) command) (λ (found : List ℕ × List Row). P found.0 found.1)
asked None name_of rows_in P name words named rows holds = absurd (let none : Some name ≡ None = named in cc)
asked (Some b) name_of rows_in P name words named rows holds =
    let name_is : name ≡ name_of b = ap (λ (o : Option (List ℕ)). unwrap_or o name) named in
    let words_are : words ≡ rows_in b = ap (λ (o : Option (List Row)). unwrap_or o words) rows in
    subst (λ (n : List ℕ). P n (rows_in b)) name_is (subst (λ (ws : List Row). P name ws) words_are holds)
