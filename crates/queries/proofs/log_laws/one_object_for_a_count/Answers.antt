use Rattle.std.proofs.Common.{◌≡◌, ℕ, List, codes, ◌++◌, append_assoc, sym}
use Rattle.std.specs.Fmt.{decimal}
use Rattle.json.specs.Print.{escape_byte}
use Rattle.serde_json.specs.Written.{compact_text}
use Rattle.queries.proofs.log_laws.one_object_for_a_count.Goals as goal

end_within : (first digits second text last end : List ℕ) → (first ++ (digits ++ (second ++ (text ++ last)))) ++ end ≡ first ++ (digits ++ (second ++ (text ++ (last ++ end))))
end_within first digits second text last end = simp append_assoc

pub returns : goal.returns
unfolding escape_byte
returns c count each = sym (end_within (codes "{\"count\":") (decimal count) (codes ",\"each\":") (compact_text each) (codes "}") (codes "\n"))
