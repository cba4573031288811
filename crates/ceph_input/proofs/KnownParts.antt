-- What a text gives, by what is known of it.
use Rattle.std.proofs.Common.{◌≡◌, ℕ, List, inl, inr, refl, ap, ◌∙◌}
use Rattle.std.proofs.lemmas.Bool.{cases_Bool}
use Rattle.std.proofs.lemmas.Str.{IsUtf8-from_is_utf8}
use Rattle.std.specs.Prelude.{Err, IsUtf8, None, Option, Result, Some, option_map, unwrap_or}
use Rattle.std.specs.Str.{is_utf8}
use Rattle.serde_json.specs.Data.{Data, Items}
use Rattle.serde_json.specs.Find.{as_array}
use Rattle.serde_json.specs.Read.{read}
use Rattle.ceph_input.specs.Auth.{json_of}
use Rattle.ceph_input.specs.declared.cluster_fault.ClusterFault.{ClusterFault}
use Rattle.ceph_input.specs.declared.cluster_fault.ClusterFault.TheVariants.{NoList}

-- it is no JSON
pub none_read : (text : List ℕ) → (IsUtf8 text → read text ≡ None) → json_of text ≡ None
none_read text not_read = elim (cases_Bool (is_utf8 text)) [
  | inl utf8 ↦ rw (utf8, not_read (IsUtf8-from_is_utf8 text utf8)) refl
  | inr other ↦ rw other refl
]

module _ {T : Type 0} (in_list : Items → Result T ClusterFault) where
  abbrev pub found : Option Data → Option (Result T ClusterFault)
  found json = option_map (λ d. unwrap_or (option_map in_list (as_array d)) (Err NoList)) json

  -- it is JSON and a list
  pub is_listed : (json : Option Data) (d : Data) (items : Items) → json ≡ Some d → as_array d ≡ Some items → found json ≡ Some (in_list items)
  is_listed json d items is has = ap found is ∙ ap (λ list. Some (unwrap_or (option_map in_list list) (Err NoList))) has
