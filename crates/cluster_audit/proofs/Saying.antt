-- What is said where it is known who holds something, and where.
use Rattle.std.proofs.Common.{◌≡◌, ℕ, Some, None, List, [], refl, subst}
use Rattle.std.specs.List.{flat_map}
use Rattle.std.specs.Prelude.{bytes_eq, find}
use Rattle.capgrant.specs.declared.access.Attr.{Attr}
use Rattle.ceph_input.specs.Auth.{Named}
use Rattle.ceph_input.specs.Dump.{Held, Listed, PathMap}
use Rattle.cluster_audit.specs.Callers.{Inode}
use Rattle.cluster_audit.specs.Audited.{AreReports, Clients, IsJudgedBy, SaysOf, SaysOfInode, is_unchecked, name_of, path_of, pathless_of}
use Rattle.cluster_audit.specs.Shaped.{unlisted_in, unnamed_in}

pub unnamed : (known : Clients) (number : ℕ) (i : Inode) (h : Held) → name_of known.sessions h.client ≡ None → SaysOf known number i h [] (unnamed_in known.manner.shape h.client)
unnamed known number i h none = rw none (refl, refl)

module _ (known : Clients) (number : ℕ) (i : Inode) (h : Held) (client : List ℕ) (is : name_of known.sessions h.client ≡ Some client) where
  pub unlisted : find (λ e. bytes_eq e.name client) known.entities ≡ None → SaysOf known number i h [] (unlisted_in known.manner.shape client)
  unlisted none = rw (is, none) (refl, refl)

  pub listed : (e : Named) → find (λ e. bytes_eq e.name client) known.entities ≡ Some e → (found unknown : List ℕ) → IsJudgedBy known.manner number i client (is_unchecked known.sessions h.client) h e.caps found unknown → SaysOf known number i h found unknown
  listed e is_listed found unknown judged = rw (is, is_listed) judged

-- an inode by its names and by the path that they are
abbrev seen : List ℕ → List (List ℕ) → List (List ℕ) → Attr → Inode
seen fs names path attr = record { fs = fs; path = names; place = path; attr = attr }

module _ (fs : List ℕ) (known : Clients) (paths : PathMap) (it : Listed) where
  pub without_path : path_of paths it ≡ None → SaysOfInode fs known paths it [] (flat_map (pathless_of known.manner.shape known.sessions it.number) it.holders)
  without_path none = rw none (refl, refl)

  pub at_path : (number : ℕ) (path names : List (List ℕ)) (attr : Attr) (holders : List Held) → number ≡ it.number → path_of paths it ≡ Some path → names ≡ path → attr ≡ it.attr → holders ≡ it.holders
      → (found unknown : List ℕ) → AreReports (SaysOf known number (seen fs names path attr)) holders found unknown → SaysOfInode fs known paths it found unknown
  at_path number path names attr holders is_number leads are_names is_attr are_holders found unknown reports =
      rw leads (
      subst (λ (p : List (List ℕ)). AreReports (SaysOf known it.number (seen fs p path it.attr)) it.holders found unknown) are_names
      (subst (λ (a : Attr). AreReports (SaysOf known it.number (seen fs names path a)) it.holders found unknown) is_attr
      (subst (λ (hs : List Held). AreReports (SaysOf known it.number (seen fs names path attr)) hs found unknown) are_holders
      (subst (λ (n : ℕ). AreReports (SaysOf known n (seen fs names path attr)) holders found unknown) is_number reports))))
