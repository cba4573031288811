use Rattle.std.proofs.Common.{◌≡◌, List, ℕ, Bool, false, Option, None, Some, sym, ◌∙◌}
use Rattle.std.specs.Prelude.{IfNone, IfSome, IsTrue, MatchOption, codes}
use Rattle.std.proofs.lemmas.Bool.{true≢false}
use Rattle.capgrant.specs.declared.access.Access.{Access}
use Rattle.capgrant.specs.declared.access.Access.TheVariants.{Chgrp, Chmod, Chown, Read, SetVxattr, Snapshot, Write}
use Rattle.texts.specs.Access.{IsAccessWord}
use Rattle.texts.proofs.access.read_access.Goals as goal

-- none of the words
no_word : (text : List ℕ) → ¬ (text ≡ codes "read") → ¬ (text ≡ codes "write") → ¬ (text ≡ codes "vxattr") → ¬ (text ≡ codes "snapshot") → ¬ (text ≡ codes "chmod")
    → ((n : ℕ) → (¬ IsAccessWord text (Chown n)) × (¬ IsAccessWord text (Chgrp n))) → (access : Access) → ¬ IsAccessWord text access
no_word text read write vxattr snapshot chmod numbered Read = read
no_word text read write vxattr snapshot chmod numbered Write = write
no_word text read write vxattr snapshot chmod numbered SetVxattr = vxattr
no_word text read write vxattr snapshot chmod numbered Snapshot = snapshot
no_word text read write vxattr snapshot chmod numbered Chmod = chmod
no_word text read write vxattr snapshot chmod numbered (Chown n) = (numbered n).0
no_word text read write vxattr snapshot chmod numbered (Chgrp n) = (numbered n).1

with_number : (text : List ℕ) (r : Option Access) → ¬ (text ≡ codes "read") → ¬ (text ≡ codes "write") → ¬ (text ≡ codes "vxattr") → ¬ (text ≡ codes "snapshot") → ¬ (text ≡ codes "chmod")
    → IfSome r (IsAccessWord text) → IfNone r ((n : ℕ) → (¬ IsAccessWord text (Chown n)) × (¬ IsAccessWord text (Chgrp n))) → MatchOption r ((access : Access) → ¬ IsAccessWord text access) (IsAccessWord text)
with_number text None read write vxattr snapshot chmod some none = no_word text read write vxattr snapshot chmod none
with_number text (Some access) read write vxattr snapshot chmod some none = some

-- a test that was false
unlike : (text word : List ℕ) (b : Bool) → (text ≡ word → IsTrue b) → b ≡ false → ¬ (text ≡ word)
unlike text word b tested is same = true≢false (sym (tested same) ∙ is)

pub returns-else-is_word-5 : goal.returns-else-is_word-5
returns-else-is_word-5 c =
    let found = c.read_with_number.ensures in
    with_number _ _ (unlike _ _ _ c.is_word.ensures.1 c.if-is_word.false) (unlike _ _ _ c.is_word-else-is_word.ensures.1 c.if-is_word-2.false) (unlike _ _ _ c.is_word-else-is_word-2.ensures.1 c.if-is_word-3.false) (unlike _ _ _ c.is_word-else-is_word-3.ensures.1 c.if-is_word-4.false)
    (unlike _ _ _ c.is_word-else-is_word-4.ensures.1 c.if-is_word-5.false) found.some found.none
