-- What an audit says, as lines or as objects.
use Rattle.std.specs.Prelude.{ℕ, Bool, List, ◌++◌, codes, Option}
use Rattle.std.specs.Fmt.{decimal}
use Rattle.capbits.specs.Caps.{Caps}
use Rattle.cluster_audit.specs.declared.findings.Finding.{Finding}
use Rattle.cluster_audit.specs.declared.conflict.Conflict.{Conflict}
use Rattle.cluster_audit.specs.declared.grants_by.Unreadable.{Unreadable}
use Rattle.cluster_audit.specs.declared.unjudged.Unknown.{Unknown}
use Rattle.texts.specs.declared.shape.Shape.{Shape}
use Rattle.texts.specs.declared.shape.Shape.TheVariants.{Lines, Objects}
use Rattle.texts.specs.Values.{json_line}
use Rattle.cluster_audit.specs.declared.notes.Detail.{Detail}
use Rattle.cluster_audit.specs.declared.notes.Detail.TheVariants.{Each, Groups}
use Rattle.cluster_audit.specs.declared.notes.Manner.{Manner}
use Rattle.cluster_audit.specs.declared.summary.Counts.{Counts}
use Rattle.cluster_audit.specs.Lines.{alias_line, conflict_line, counts_line, group_line, held_line, pathless_line, unknown_line, unlinked_line, unlisted_line, unnamed_line}
use Rattle.cluster_audit.specs.Lines.{unreadable_line}
use Rattle.cluster_audit.specs.Objects.{alias_value, conflict_object, counts_object, found_object, group_object, pathless_value, unknown_value, unlinked_value, unlisted_value}
use Rattle.cluster_audit.specs.Objects.{unnamed_value, unreadable_value}

-- the line, or the object in its place
abbrev pub in_shape : Shape → List ℕ → List ℕ → List ℕ
in_shape Lines line object = line
in_shape Objects line object = object

-- ---- what is found

-- the line for what is held beyond grants, or that for all that is found so of the client
abbrev pub found_line : Detail → List (List ℕ) → List ℕ → ℕ → Caps → Caps → Finding → Bool → List ℕ
found_line Each path client session issued pending f unjudged = held_line path client session issued pending f unjudged
found_line Groups path client session issued pending f unjudged = group_line client f

abbrev pub found_in : Manner → ℕ → List (List ℕ) → List ℕ → ℕ → Caps → Caps → Finding → Bool → List ℕ
found_in m number path client session issued pending f unjudged =
    in_shape m.shape (found_line m.detail path client session issued pending f unjudged) (found_object m.detail number path client session issued pending f unjudged)

-- the same of two sessions in conflict on an inode
abbrev pub conflict_in : Manner → ℕ → Option (List (List ℕ)) → Option (List ℕ) → Option (List ℕ) → Conflict → List ℕ
conflict_in m number path one other c = in_shape m.shape (conflict_line m.detail number path one other c) (conflict_object m.detail number path one other c)

-- what so many are
abbrev pub counted_in : Shape → List ℕ → ℕ → List ℕ
counted_in shape line count = in_shape shape (line ++ codes ": " ++ decimal count ++ codes "\n") (group_object count line)

-- ---- names and paths

abbrev pub alias_in : Shape → ℕ → List ℕ → List ℕ → List ℕ
alias_in shape session client alias = in_shape shape (alias_line session client alias) (json_line (alias_value session client alias))

abbrev pub unlinked_in : Shape → ℕ → List (List ℕ) → List ℕ
unlinked_in shape number path = in_shape shape (unlinked_line number path) (json_line (unlinked_value number path))

-- ---- what could not be judged

abbrev pub unnamed_in : Shape → ℕ → List ℕ
unnamed_in shape number = in_shape shape (unnamed_line number) (json_line (unnamed_value number))

abbrev pub unlisted_in : Shape → List ℕ → List ℕ
unlisted_in shape client = in_shape shape (unlisted_line client) (json_line (unlisted_value client))

abbrev pub unreadable_in : Shape → List ℕ → Unreadable → List ℕ
unreadable_in shape client what = in_shape shape (unreadable_line client what) (json_line (unreadable_value client what))

abbrev pub unknown_in : Shape → Unknown → ℕ → List (List ℕ) → List ℕ → ℕ → List ℕ
unknown_in shape unknown number path client session = in_shape shape (unknown_line unknown path client session) (json_line (unknown_value unknown number path client session))

abbrev pub pathless_in : Shape → ℕ → List ℕ → ℕ → List ℕ → List ℕ
pathless_in shape number client session issued = in_shape shape (pathless_line number client session issued) (json_line (pathless_value number client session issued))

-- ---- the end

abbrev pub counts_in : Shape → Counts → List ℕ
counts_in shape n = in_shape shape (counts_line n) (counts_object n)
