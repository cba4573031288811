-- The words for what an MDS is asked for, several accesses at once.
use Rattle.std.specs.Prelude.{◌≡◌, ℕ, List, codes, Option, Some, option_and_then, option_map}
use Rattle.capspec.specs.Items.{IsNumber}
use Rattle.texts.specs.declared.mds_asked.MdsAccess.{MdsAccess}
use Rattle.texts.specs.declared.mds_asked.MdsAccess.TheVariants.{Mask, One, ReadWrite}
use Rattle.queries.specs.declared.mds_words.MaskTexts.{MaskTexts as Texts}
use Rattle.queries.specs.Cuts.{behind_front, cut_first}

-- the numbers of a mask, each as it stands in its word
pub record MaskTexts : Type 0 where
  pub bits : List ℕ
  pub uid : List ℕ
  pub gid : List ℕ

abbrev pub mask_texts_of : Texts → MaskTexts
mask_texts_of texts = record { bits = texts.bits.now; uid = texts.uid.now; gid = texts.gid.now }

-- its bits, with the uid and the gid that stand between and behind the colons after them
abbrev pub behind_bits : List ℕ → List ℕ → Option MaskTexts
behind_bits bits ids = option_map (λ parts. record { bits = bits; uid = parts.0; gid = parts.1 }) (cut_first (codes ":") ids)

-- the parts of a word for a mask, if it is one
abbrev pub mask_texts : List ℕ → Option MaskTexts
mask_texts text = option_and_then (λ numbers. option_and_then (λ parts. behind_bits parts.0 parts.1) (cut_first (codes ":") numbers)) (behind_front (codes "mask:") text)

-- the texts write the numbers
pub record AreNumbers (texts : MaskTexts) (mask owner group : ℕ) : Type 0 where
  pub bits : IsNumber texts.bits mask
  pub uid : IsNumber texts.uid owner
  pub gid : IsNumber texts.gid group

-- the word names several accesses at once
abbrev pub IsSeveral : List ℕ → MdsAccess → Type 0
IsSeveral text (One access) = ⊥
IsSeveral text ReadWrite = text ≡ codes "readwrite"
IsSeveral text (Mask bits uid gid) = (texts : MaskTexts) × (mask_texts text ≡ Some texts) × AreNumbers texts bits uid gid
