-- Why the tree of a cluster is not read.
use Rattle.std.specs.Prelude.{◌≡◌, ◌⊎◌, ◌<◌, ℕ, Bool, List, length, Option, IfSome, IsTrue}
use Rattle.texts.specs.declared.fault.ScriptFault.TheVariants as stops
use Rattle.ceph_input.specs.declared.tree_fault.TreeFault.{TreeFault}
use Rattle.ceph_input.specs.Dump.{IsTreeFault, tree_of}
use Rattle.cli_queries.specs.declared.fault.AnswerFault.{AnswerFault}
use Rattle.cli_queries.specs.declared.fault.AnswerFault.TheVariants.{NoMemory, Tree, Unread}

-- how many bytes it may have
abbrev pub longest_tree : ℕ
longest_tree = 1099511627776

-- a read failed, or the text is too long; or the fault is that of the text; or memory was missing
abbrev pub StopsTree : AnswerFault → Option (List ℕ) → Bool → Type 0
StopsTree fault input unread = ((fault ≡ Unread stops.ReadFault) × (IsTrue unread ⊎ IfSome input (λ text. longest_tree < length text)))
    ⊎ (((found : TreeFault) × (fault ≡ Tree found) × IfSome input (λ text. IsTreeFault found (tree_of text))) ⊎ (fault ≡ NoMemory))
