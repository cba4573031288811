-- A tree that is read piece by piece.
use Rattle.std.proofs.Common.{◌≡◌, ℕ, Bool, List, ◌++◌, Option, None, Some, inl, inr, ap, subst, sym, ◌∙◌, append_assoc}
use Rattle.std.specs.Io.KnownBytes.{Consumes}
use Rattle.std.specs.Prelude.{Err, IfErr, IsErrAnd, Ok, Result}
use Rattle.ceph_input.specs.declared.tree_fault.TreeFault.{TreeFault}
use Rattle.ceph_input.specs.Dump.{Growing, IsTreeFault, tree_left, tree_of}
use Rattle.cli_queries.specs.declared.fault.AnswerFault.{AnswerFault}
use Rattle.cli_queries.specs.declared.fault.AnswerFault.TheVariants.{Tree}
use Rattle.cli_queries.specs.Growing.{StopsTree}

-- so much was read, and then a piece of the text
pub piece_read : (read piece : List ℕ) (old : Growing) → ((tail : List ℕ) → tree_of (read ++ tail) ≡ tree_left old tail) → (new : Growing) → ((tail : List ℕ) → tree_left old (piece ++ tail) ≡ tree_left new tail)
    → (tail : List ℕ) → tree_of ((read ++ piece) ++ tail) ≡ tree_left new tail
piece_read read piece old before new more tail = ap tree_of (append_assoc read piece tail) ∙ before (piece ++ tail) ∙ more tail

-- so much was read, and then a piece which the fault is in
pub piece_refused : {T : Type 0} (input now next : Option (List ℕ)) (read piece : List ℕ) (old : Growing) (unread : Bool) (found : TreeFault) (answer : Result T AnswerFault) → Consumes input now read → Consumes now next piece
    → ((tail : List ℕ) → tree_of (read ++ tail) ≡ tree_left old tail) → ((tail : List ℕ) → IsTreeFault found (tree_left old (piece ++ tail))) → IsErrAnd answer (λ fault. fault ≡ Tree found) → IfErr answer (λ fault. StopsTree fault input unread)
piece_refused input now next read piece old unread found (Ok x) first second before why reported = tt
piece_refused None now next read piece old unread found (Err fault) first second before why reported = inr (inl (found, reported, tt))
piece_refused (Some text) None next read piece old unread found (Err fault) first second before why reported = absurd first
piece_refused (Some text) (Some left) None read piece old unread found (Err fault) first second before why reported = absurd second
piece_refused (Some text) (Some left) (Some rest) read piece old unread found (Err fault) first second before why reported =
    let same : tree_of text ≡ tree_left old (piece ++ rest) = ap tree_of first ∙ before left ∙ ap (tree_left old) second in
    inr (inl (found, reported, subst (IsTreeFault found) (sym same) (why rest)))
