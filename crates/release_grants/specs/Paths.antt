-- What lies at or below the directory of a grant, whose path an MDS compares as a text.
use Rattle.std.specs.Prelude.{ℕ, ◌-◌, Bool, true, ◌==◌, ◌&&◌, ◌||◌, List, [], ◌∷◌, length, take, drop, slice_get, bytes_eq, if◌then◌else◌}
use Rattle.capspec.specs.Paths.{slashed}
use Rattle.capspec.specs.Words.{rest_while}
use Rattle.capgrant.specs.Failing.{is_some_and}
use Rattle.release_grants.specs.declared.switches.Switches.{Switches}

abbrev pub is_slash : ℕ → Bool
is_slash b = b == 47

-- the text without the slashes in front of it
abbrev pub without_first_slashes : List ℕ → List ℕ
without_first_slashes text = rest_while is_slash text

-- the byte before the rest, unless it is a slash with nothing behind
abbrev pub unless_last_slash : ℕ → List ℕ → List ℕ
unless_last_slash b [] = if is_slash b then [] else b ∷ []
unless_last_slash b (c ∷ rest) = b ∷ c ∷ rest

-- the text without the slashes at its end
abbrev pub without_last_slashes : List ℕ → List ℕ
without_last_slashes [] = []
without_last_slashes (b ∷ bs) = unless_last_slash b (without_last_slashes bs)

-- the path of a grant as the release compares it
abbrev pub directory_of : Switches → List ℕ → List ℕ
directory_of switches path = if switches.drops_last_slashes then without_last_slashes (without_first_slashes path) else without_first_slashes path

-- the names of an inode as an MDS has them: a slash between each two, and none in front
abbrev pub path_text : List (List ℕ) → List ℕ
path_text names = without_first_slashes (slashed names)

-- nothing, or a slash: here a name ends
abbrev pub ends_name : List ℕ → Bool
ends_name [] = true
ends_name (b ∷ bs) = is_slash b

abbrev pub ends_in_slash : List ℕ → Bool
ends_in_slash text = is_some_and is_slash (slice_get text (length text - 1))

-- The path begins with the directory, and there a name ends. So nothing lies in a directory with two slashes side by side, and where one
-- stands at its end, only what is below it.
abbrev pub lies_in : List ℕ → List ℕ → Bool
lies_in directory path =
    (length directory == 0)
    || (bytes_eq (take (length directory) path) directory && (ends_name (drop (length directory) path) || ends_in_slash directory))
