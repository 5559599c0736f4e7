-- Whether an atom is of a group.
use Rattle.std.proofs.Common.{◌≡◌, ℕ, Result, List, is_ok}
use Rattle.std.specs.List.Sorted.{IsBinarySearchResult}
use Rattle.std.specs.Ordering.{nat_cmp}
use Rattle.box_geo.specs.declared.atoms.Atom.{Atom}
use Rattle.box_geo.specs.Ids.{Rises}
use Rattle.fix_list.proofs.SearchLemmas.{found-any}
use Rattle.velocity_make.specs.Group.{is_member}

-- a binary search among rising ids tells it
pub member_found : (ids : List ℕ) (a : Atom) (r : Result ℕ ℕ) → IsBinarySearchResult (λ y. nat_cmp y a.id) ids r → Rises ids → is_ok r ≡ is_member ids a
member_found ids a r is rises = found-any ids a.id r is rises
