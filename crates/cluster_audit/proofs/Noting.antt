-- What is added to notes.
use Rattle.std.proofs.Common.{◌≡◌, ℕ, List, [], ◌++◌, sym, ap, ◌∙◌, append_assoc}
use Rattle.std.proofs.lemmas.List.{append-nil}
use Rattle.cluster_audit.specs.declared.notes.Notes.{Notes}
use Rattle.cluster_audit.specs.Audited.{Adds}

module _ (P : List ℕ → List ℕ → Type 0) (old new : Notes) where
  pub nothing_added : new.found.items ≡ old.found.items → new.unknown.items ≡ old.unknown.items → P [] [] → Adds P old new
  nothing_added same equal holds = ([], [], same ∙ sym (append-nil _), equal ∙ sym (append-nil _), holds)

  pub found_added : (found : List ℕ) → new.found.items ≡ old.found.items ++ found → new.unknown.items ≡ old.unknown.items → P found [] → Adds P old new
  found_added found more equal holds = (found, [], more, equal ∙ sym (append-nil _), holds)

  pub unknown_added : (unknown : List ℕ) → new.found.items ≡ old.found.items → new.unknown.items ≡ old.unknown.items ++ unknown → P [] unknown → Adds P old new
  unknown_added unknown same more holds = ([], unknown, same ∙ sym (append-nil _), more, holds)

-- what is added is also of which another thing holds
pub added_too : (P Q : List ℕ → List ℕ → Type 0) (old new : Notes) → ((found unknown : List ℕ) → P found unknown → Q found unknown) → Adds P old new → Adds Q old new
added_too P Q old new also adds = (adds.0, adds.1, adds.2, adds.3, also adds.0 adds.1 adds.4)

-- a text behind a text behind what stood there
pub behind : (first second third a b : List ℕ) → second ≡ first ++ a → third ≡ second ++ b → third ≡ first ++ (a ++ b)
behind first second third a b one two = two ∙ ap (λ (t : List ℕ). t ++ b) one ∙ append_assoc first a b
