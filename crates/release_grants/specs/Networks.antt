-- The network of a grant, and whether the address of a client is in it.
use Rattle.std.specs.Prelude.{ℕ, ◌-◌, ◌/◌, ◌%◌, ◌^◌, min, nat_le, ◌==◌, ◌&&◌, ◌||◌, not, Bool, true, false, Option, Some, None, option_map, List, [], ◌∷◌}
use Rattle.std.specs.Prelude.{length, drop, if◌then◌else◌}
use Rattle.std.specs.List.{list_all}
use Rattle.std.specs.Option.{option_or}
use Rattle.std.specs.Str.Parse.{digits_value}
use Rattle.std.specs.Net.Addr.{ipv4_octets, ipv6_octets, octets_of}
use Rattle.std.specs.Net.Reader.{read_ipv4, read_ipv6, whole_value}
use Rattle.std.specs.declared.net.ip_addr.IpAddr.{IpAddr}
use Rattle.std.specs.declared.net.ip_addr.IpAddr.TheVariants.{V4, V6}
use Rattle.capspec.specs.Words.{front_while, is_digit, rest_while}
use Rattle.release_grants.specs.declared.network.InNetwork.{InNetwork}
use Rattle.release_grants.specs.declared.network.InNetwork.TheVariants.{No, Unknown, Yes}

-- an address, by its four octets or its sixteen
pub data Address : Type 0 where
  Short : List ℕ → Address
  Long : List ℕ → Address

abbrev pub address_of : IpAddr → Address
address_of (V4 ip) = Short (ipv4_octets ip)
address_of (V6 ip) = Long (ipv6_octets ip)

-- the address that a whole text writes, as `10.0.0.1` or `fd00::1`
abbrev pub address_in : List ℕ → Option Address
address_in text = option_or (option_map Short (whole_value (read_ipv4 text))) (option_map (λ segments. Long (octets_of segments)) (whole_value (read_ipv6 text)))

-- an address, and how many of its first bits count
pub record Network : Type 0 where
  pub start : Address
  pub bits : ℕ

abbrev pub is_no_slash : ℕ → Bool
is_no_slash b = not (b == 47)

-- the number that digits write, as the MDS keeps it: at most 2 ^ 63 - 1, and of that the last 32 bits
abbrev pub bits_in : List ℕ → Option ℕ
bits_in digits = if (length digits == 0) || not (list_all is_digit digits) then None else Some (min (digits_value 10 digits) (2 ^ 63 - 1) % 2 ^ 32)

abbrev pub network_of : Option Address → Option ℕ → Option Network
network_of (Some start) (Some bits) = Some (record { start = start; bits = bits })
network_of start bits = None

-- the network that a text writes: an address, a slash and the number of bits. Without these two it writes none.
abbrev pub network_in : List ℕ → Option Network
network_in text = network_of (address_in (front_while is_no_slash text)) (bits_in (drop 1 (rest_while is_no_slash text)))

-- the first bits of the octets are the same, as many as that
abbrev pub share_bits : ℕ → List ℕ → List ℕ → Bool
share_bits bits [] other = true
share_bits bits (x ∷ xs) [] = true
share_bits bits (x ∷ xs) (y ∷ ys) = if nat_le 8 bits then (x == y) && share_bits (bits - 8) xs ys else (x / 2 ^ (8 - bits)) == (y / 2 ^ (8 - bits))

-- the address is of the same kind, and begins with as many bits
abbrev pub begins_as : ℕ → Address → Address → Bool
begins_as bits (Short start) (Short address) = share_bits bits start address
begins_as bits (Long start) (Long address) = share_bits bits start address
begins_as bits start address = false

-- by the network that a grant's text writes, if it writes one; what it says otherwise is for nobody
abbrev pub by_network : Option Network → Option Address → InNetwork
by_network None address = No
by_network (Some network) None = Unknown
by_network (Some network) (Some address) = if begins_as network.bits network.start address then Yes else No

-- whether the address, if it is known, is in the network of a grant; a grant without one is for all
abbrev pub in_network : Option (List ℕ) → Option Address → InNetwork
in_network None address = Yes
in_network (Some text) address = by_network (network_in text) address

abbrev pub is_no : InNetwork → Bool
is_no Yes = false
is_no No = true
is_no Unknown = false

abbrev pub is_unknown : InNetwork → Bool
is_unknown Yes = false
is_unknown No = false
is_unknown Unknown = true
