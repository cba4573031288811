-- A check of policy as an MDS writes it, and that it reads back.
use Rattle.std.specs.Prelude.{◌≡◌, ℕ, ◌==◌, not, ◌&&◌, Option, Some, None, IfSome, true, false, List, [], ◌++◌, codes}
use Rattle.std.specs.List.{list_all}
use Rattle.capspec.specs.Words.{is_digit}
use Rattle.queries.specs.Cuts.{is_closed}
use Rattle.queries.specs.Checks.{CheckTexts, InodeTexts, check_of, head_of}

-- ---- what is written

-- how a check begins, behind `is_capable`
abbrev pub written_head : Option (List ℕ) → List ℕ
written_head None = codes " inode(path "
written_head (Some fs) = codes "fs_name " ++ (fs ++ codes " inode(path ")

-- one part more, behind its mark
abbrev pub with_part : List ℕ → List ℕ → List ℕ → List ℕ
with_part mark part text = text ++ (mark ++ part)

-- what stands behind that: the inode
abbrev pub written_inode : InodeTexts → List ℕ
written_inode i = with_part (codes " mode ") i.mode (with_part (codes ":") i.group (with_part (codes " owner ") i.owner i.path))

-- the caller and what it asks for
abbrev pub written_asked : CheckTexts → List ℕ
written_asked c = with_part (codes " mask ") c.mask (with_part (codes ":") c.gid (with_part (codes ") by caller ") c.uid (written_inode c.inode)))

-- whom the inode is to be given to, and the grants
abbrev pub written_check : CheckTexts → List ℕ
written_check c = with_part (codes "]") [] (with_part (codes " cap: MDSAuthCaps[") c.grants (with_part (codes ":") c.new_gid (with_part (codes " new ") c.new_uid (written_asked c))))

-- ---- what can be

-- wherever the mark stands in the text, it stands in double quotes
abbrev pub StandsInQuotes : List ℕ → List ℕ → Type 0
StandsInQuotes mark text = (front behind : List ℕ) → text ≡ front ++ (mark ++ behind) → is_closed front ≡ false

-- the name of a file system has neither a space nor a parenthesis
abbrev pub IsName : List ℕ → Type 0
IsName name = list_all (λ b. not (b == 32) && not (b == 40)) name ≡ true

abbrev pub IsDigits : List ℕ → Type 0
IsDigits text = list_all is_digit text ≡ true

-- the path is any text, the numbers have digits alone, and the grants close each double quote
pub record IsWritable (c : CheckTexts) : Type 0 where
  pub owner : IsDigits c.inode.owner
  pub group : IsDigits c.inode.group
  pub mode : IsDigits c.inode.mode
  pub uid : IsDigits c.uid
  pub gid : IsDigits c.gid
  pub mask : IsDigits c.mask
  pub new_uid : IsDigits c.new_uid
  pub new_gid : IsDigits c.new_gid
  pub closed : is_closed c.grants ≡ true
  pub quoted : StandsInQuotes (codes " cap: MDSAuthCaps[") c.grants

-- ---- that it reads back

-- the head, whatever stands behind it
abbrev pub HeadReadsBack : Type 0
HeadReadsBack = (fs : Option (List ℕ)) (parts : List ℕ) → IfSome fs IsName → head_of (written_head fs ++ parts) ≡ Some (fs, parts)

-- the rest, whatever the path has, even a whole check, and whatever quoted paths of the grants have
abbrev pub CheckReadsBack : Type 0
CheckReadsBack = (c : CheckTexts) → IsWritable c → check_of (written_check c) ≡ Some c
