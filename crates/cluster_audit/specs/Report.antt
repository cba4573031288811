-- What an audit tells of the inodes of a tree.
use Rattle.std.specs.Prelude.{◌≡◌, ◌==◌, ℕ, Bool, not, if◌then◌else◌, List, ◌++◌, length}
use Rattle.ceph_input.specs.Dump.{Dump}
use Rattle.texts.specs.declared.shape.Shape.{Shape}
use Rattle.texts.specs.Shapes.{nothing_in}
use Rattle.cluster_audit.specs.declared.notes.Detail.{Detail}
use Rattle.cluster_audit.specs.declared.notes.Detail.TheVariants.{Each, Groups}
use Rattle.cluster_audit.specs.declared.notes.Manner.{Manner}
use Rattle.cluster_audit.specs.Audited.{AreReports, Clients, Give, SaysOfInode, SaysOfPairs, remarks}
use Rattle.cluster_audit.specs.Order.{AreCounted, AreInOrder}
use Rattle.cluster_audit.specs.Otherwise.{TellsOfAll}
use Rattle.cluster_audit.specs.Shaped.{counts_in}
use Rattle.cluster_audit.specs.Summary.{counts_of}

-- lines in order, or lines that are alike counted
abbrev pub AreListed : Detail → Shape → List ℕ → List ℕ → Type 0
AreListed Each shape text listed = AreInOrder text listed
AreListed Groups shape text listed = AreCounted shape text listed

-- what is found beyond grants and in conflict, in order or counted, and behind it, in order, what is remarked, and what is not known
abbrev pub AreLines : Manner → List ℕ → List ℕ → List ℕ → List ℕ → List ℕ → Type 0
AreLines m beyond conflicts remarked unknown lines = (first : List ℕ) × (others : List ℕ) × (last : List ℕ)
    × AreListed m.detail m.shape (beyond ++ conflicts) first × AreInOrder remarked others × AreInOrder unknown last × (lines ≡ (first ++ others) ++ last)

-- these lines are told, or that nothing is found where there are none, and behind them the last ones
abbrev pub IsReported : Shape → List ℕ → List ℕ → List ℕ → Bool → Type 0
IsReported shape lines last text found = (found ≡ not (length lines == 0)) × (text ≡ (if found then lines else nothing_in shape) ++ last)

-- the last ones are those on releases, which play no part in whether anything is found, and the one that sums it up
pub record IsReport (fs : List ℕ) (known : Clients) (seen : Dump) (text : List ℕ) (found : Bool) : Type 0 where
  pub beyond : List ℕ
  pub conflicts : List ℕ
  pub unknown : List ℕ
  pub lines : List ℕ
  pub others : List ℕ
  pub reports : AreReports (SaysOfInode fs known seen.paths) seen.inodes beyond unknown
  pub paired : Give (SaysOfPairs known.manner known.sessions seen.paths) seen.inodes conflicts
  pub ordered : AreLines known.manner beyond conflicts (remarks known.manner.shape known.sessions seen.paths seen.inodes) unknown lines
  pub told : TellsOfAll fs known seen.paths seen.inodes others
  pub reported : IsReported known.manner.shape lines (others ++ counts_in known.manner.shape (counts_of known.sessions seen.inodes beyond conflicts unknown)) text found
