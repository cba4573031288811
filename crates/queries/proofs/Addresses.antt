-- The address of a client, by its text.
use Rattle.std.proofs.Common.{◌≡◌, ℕ, List, Option, None, Some, subst, sym, ap, ◌∙◌}
use Rattle.std.specs.Prelude.{option_map}
use Rattle.std.specs.Global.{Vec}
use Rattle.std.specs.declared.net.ip_addr.IpAddr.{IpAddr}
use Rattle.release_grants.specs.Networks.{address_in, address_of}
use Rattle.queries.specs.Values.{IsAddressIf}

module _ (given : Option (Vec ℕ)) (text : Vec ℕ) (bytes : List ℕ) (read : Option IpAddr) where
  -- it was read in the text that is given
  pub one_address : (address : IpAddr) → given ≡ Some text → bytes ≡ text.items → option_map address_of read ≡ address_in bytes → read ≡ Some address → IsAddressIf given (Some address)
  one_address address is same found one =
      subst (λ (g : Option (Vec ℕ)). IsAddressIf g (Some address)) (sym is) (ap address_in (sym same) ∙ sym found ∙ ap (option_map address_of) one)

-- a text that writes none
not_one : (text : Vec ℕ) → address_in text.items ≡ None → (address : Option IpAddr) → ¬ IsAddressIf (Some text) address
not_one text none None = λ is. is
not_one text none (Some address) = λ is. let bad : None ≡ Some (address_of address) = sym none ∙ is in absurd (cc)

module _ (given : Option (Vec ℕ)) (text : Vec ℕ) (bytes : List ℕ) (read : Option IpAddr) where
  -- none was read there
  pub no_address : given ≡ Some text → bytes ≡ text.items → option_map address_of read ≡ address_in bytes → read ≡ None → (address : Option IpAddr) → ¬ IsAddressIf given address
  no_address is same found none address =
      subst (λ (g : Option (Vec ℕ)). ¬ IsAddressIf g address) (sym is) (not_one text (ap address_in (sym same) ∙ sym found ∙ ap (option_map address_of) none) address)
