use Rattle.std.proofs.Common.{◌≡◌, true, false, List, ℕ, None, Some, [], ◌∷◌, sym, ap, ◌∙◌}
use Rattle.std.specs.Prelude.{option_map}
use Rattle.std.proofs.lemmas.Bool.{cond-false, cond-true}
use Rattle.std.proofs.lemmas.List.Splits.{join_with_byte-slice_split}
use Rattle.queries.specs.Checks.{is_thread, spaced, words, words_behind_thread}
use Rattle.queries.proofs.check.behind_thread.Goals as goal

goes_on : (rest word behind : List ℕ) → words rest ≡ word ∷ words behind → is_thread word ≡ false → words_behind_thread (words rest) ≡ words_behind_thread (words behind)
goes_on rest word behind is other = ap words_behind_thread is ∙ cond-false (is_thread word) (Some (words behind)) (words_behind_thread (words behind)) other

here : (rest word behind : List ℕ) → words rest ≡ word ∷ words behind → is_thread word ≡ true → option_map spaced (words_behind_thread (words rest)) ≡ Some behind
here rest word behind is thread =
    ap (λ (ws : List (List ℕ)). option_map spaced (words_behind_thread ws)) is
    ∙ ap (option_map spaced) (cond-true (is_thread word) (Some (words behind)) (words_behind_thread (words behind)) thread)
    ∙ ap Some (join_with_byte-slice_split 32 behind)

-- the last word
last_is : (rest : List ℕ) → words rest ≡ rest ∷ [] → is_thread rest ≡ true → option_map spaced (words_behind_thread (words rest)) ≡ Some []
last_is rest is thread = ap (λ (ws : List (List ℕ)). option_map spaced (words_behind_thread ws)) is ∙ ap (option_map spaced) (cond-true (is_thread rest) (Some []) None thread)

last_is_not : (rest : List ℕ) → words rest ≡ rest ∷ [] → is_thread rest ≡ false → option_map spaced (words_behind_thread (words rest)) ≡ None
last_is_not rest is other = ap (λ (ws : List (List ℕ)). option_map spaced (words_behind_thread ws)) is ∙ ap (option_map spaced) (cond-false (is_thread rest) (Some []) None other)

pub loop-word-smaller : goal.loop-word-smaller
loop-word-smaller c = c.in-Some.ensures.shorter

pub loop-word-preserved : goal.loop-word-preserved
loop-word-preserved c =
    sym (goes_on c.loop-word.rest.now c.in-Some.word.now c.in-Some.behind.now c.in-Some.ensures.words (sym c.is_thread.ensures ∙ c.if-is_thread.false)) ∙ c.loop-word.invariant

pub returns-then-is_thread : goal.returns-then-is_thread
returns-then-is_thread c =
    sym (here c.loop-word.rest.now c.in-Some.word.now c.in-Some.behind.now c.in-Some.ensures.words (sym c.is_thread.ensures ∙ c.if-is_thread.true)) ∙ ap (option_map spaced) c.loop-word.invariant

pub returns-then-is_thread-2 : goal.returns-then-is_thread-2
returns-then-is_thread-2 c = sym (last_is c.loop-word.rest.now c.in_default.ensures.words (sym c.is_thread-2.ensures ∙ c.if-is_thread-2.true)) ∙ ap (option_map spaced) c.loop-word.invariant

pub returns-else-is_thread-2 : goal.returns-else-is_thread-2
returns-else-is_thread-2 c = sym (last_is_not c.loop-word.rest.now c.in_default.ensures.words (sym c.is_thread-2.ensures ∙ c.if-is_thread-2.false)) ∙ ap (option_map spaced) c.loop-word.invariant
