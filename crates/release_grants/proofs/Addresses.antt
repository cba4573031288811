-- The octets of an address that std reads in a text.
use Rattle.std.proofs.Common.{◌≡◌, ℕ, false, eqb, List, [], ◌∷◌, ◌++◌, length, arith, Option, Some, None, option_map, Result, Ok, Err, refl, sym, ap, subst}
use Rattle.std.proofs.Common.{◌∙◌, append-nil, lit≤}
use Rattle.std.proofs.lemmas.Bool.Decides.{nat_tests}
use Rattle.std.specs.Result.{result_ok}
use Rattle.std.specs.Net.Addr.{ipv4_octets, ipv6_segments}
use Rattle.std.specs.Net.Grammar.{IsColonHex, IsDotted, IsIpText, Parses}
use Rattle.std.specs.Net.Reader.{read_ipv4, read_ipv6, whole_value}
use Rattle.std.specs.declared.net.ip_addr.IpAddr.{IpAddr}
use Rattle.std.specs.declared.net.ip_addr.IpAddr.TheVariants.{V4, V6}
use Rattle.std.proofs.NetLemmas.Ipv4.{read_ipv4_complete, read_ipv4_sound}
use Rattle.std.proofs.NetLemmas.Ipv6.{EndsGroups-nil, IsDotted-not_colon_hex, read_ipv6_complete, read_ipv6_sound}
use Rattle.release_grants.specs.Networks.{address_in, address_of}

dotted_whole : (text octets : List ℕ) → IsDotted text octets → whole_value (read_ipv4 text) ≡ Some octets
dotted_whole text octets is = ap whole_value (ap read_ipv4 (sym (append-nil text)) ∙ read_ipv4_complete text octets [] is (lit≤ tt))

colon_whole : (text segments : List ℕ) → IsColonHex text segments → whole_value (read_ipv6 text) ≡ Some segments
colon_whole text segments is = ap whole_value (ap read_ipv6 (sym (append-nil text)) ∙ read_ipv6_complete text segments [] is EndsGroups-nil)

-- a text of which all is read, and none of whose fronts is such a text, is not read whole
not_whole : (Is : List ℕ → List ℕ → Type 0) (text : List ℕ) → ((value : List ℕ) → ¬ (Is text value)) → (value rest : List ℕ) → ((front : List ℕ) × (text ≡ front ++ rest) × Is front value) → whole_value (Some (value, rest)) ≡ None
not_whole Is text never value [] sound = absurd (never value (subst (λ t. Is t value) (sym (sound.1 ∙ append-nil sound.0)) sound.2))
not_whole Is text never value (b ∷ rest) sound = let some : eqb (length (b ∷ rest)) 0 ≡ false = grind (arith, nat_tests) in rw some refl

no_dotted : (text : List ℕ) → ((octets : List ℕ) → ¬ (IsDotted text octets)) → whole_value (read_ipv4 text) ≡ None
no_dotted text never = by_read (read_ipv4 text) refl
  where
    by_read : (r : Option (List ℕ × List ℕ)) → read_ipv4 text ≡ r → whole_value r ≡ None
    by_read None e = refl
    by_read (Some p) e = not_whole IsDotted text never p.0 p.1 (read_ipv4_sound text p.0 p.1 e)

no_colon : (text : List ℕ) → ((segments : List ℕ) → ¬ (IsColonHex text segments)) → whole_value (read_ipv6 text) ≡ None
no_colon text never = by_read (read_ipv6 text) refl
  where
    by_read : (r : Option (List ℕ × List ℕ)) → read_ipv6 text ≡ r → whole_value r ≡ None
    by_read None e = refl
    by_read (Some p) e = not_whole IsColonHex text never p.0 p.1 (read_ipv6_sound text p.0 p.1 e)

pub address_read : {E : Type 0} (text : List ℕ) (r : Result IpAddr E) → Parses IsIpText text r → option_map address_of (result_ok r) ≡ address_in text
address_read text (Ok (V4 ip)) is = rw (dotted_whole text (ipv4_octets ip) is) refl
address_read text (Ok (V6 ip)) is = rw (no_dotted text (λ octets dotted. IsDotted-not_colon_hex text octets (ipv6_segments ip) dotted is), colon_whole text (ipv6_segments ip) is) refl
address_read text (Err e) never =
    rw (no_dotted text (λ octets dotted. never (V4 (record { octets = octets })) dotted), no_colon text (λ segments hex. never (V6 (record { segments = segments })) hex)) refl
