-- What a text is, by what is known of it.
use Rattle.std.proofs.Common.{◌≡◌, ℕ, List, [], ap, ◌∙◌}
use Rattle.std.specs.Prelude.{Err, Some, option_map, unwrap_or}
use Rattle.serde_json.specs.Data.{Data, Items}
use Rattle.ceph_input.specs.declared.auth_fault.AuthFault.TheVariants.{NoList}
use Rattle.ceph_input.specs.Auth.{auth_in, auth_of, entities_of, json_of, list_in}

-- it is JSON and has a list
pub auth_listed : (text : List ℕ) (d : Data) (items : Items) → json_of text ≡ Some d → list_in d ≡ Some items → auth_of text ≡ Some (entities_of [] items)
auth_listed text d items is has = ap (option_map auth_in) is ∙ ap (λ found. Some (unwrap_or (option_map (entities_of []) found) (Err NoList))) has
