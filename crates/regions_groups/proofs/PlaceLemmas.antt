-- Places of regions, and the answers at them.
use Rattle.std.proofs.Common.{◌≡◌, ◌+◌, ◌<◌, ◌∙◌, ◌||◌, ℕ, ℤ, Bool, true, false, cond, List, [], ◌∷◌, ◌++◌, Option, Some, None, length, map, take, drop, get_or, set, reverse, length-append, refl, ap, sym, subst, arith, add-one}
use Rattle.std.specs.Prelude.{is_some}
use Rattle.std.specs.Option.{unwrap_or}
use Rattle.std.specs.List.{list_all, list_any}
use Rattle.std.proofs.lemmas.List.{map-append, reverse-append}
use Rattle.std.proofs.Math.ListN.{get_or-append}
use Rattle.std.proofs.Math.Seq.{get_or-append_seam, take-suc, take-suc-set}
use Rattle.std.proofs.lemmas.List.{take-append-drop}
use Rattle.regions_groups.specs.declared.kept_regions.Kept.{Kept}
use Rattle.regions_groups.specs.declared.shapes.Region.{Region}
use Rattle.regions_groups.specs.declared.shapes.Region.TheVariants.{Block, Sphere, Union, Intersect}
use Rattle.regions_groups.specs.Kept.{answer_at, answers, holds_by, latest_first, named, place_in, ArePlaced}
use Rattle.regions_groups.specs.Regions.{holds, is_named, is_there, names_of, on_side, region_holds, NamedRegion}

-- one more region, the latest
pub reverse_more : (kept : List Kept) (n : ℕ) (d : Kept) → n < length kept → reverse (take (n + 1) kept) ≡ get_or kept n d ∷ reverse (take n kept)
reverse_more kept n d h =
    let e : take (n + 1) kept ≡ take n kept ++ get_or kept n d ∷ [] = rw add-one (take-suc kept n d h) in
    ap reverse e ∙ reverse-append (take n kept) (get_or kept n d ∷ [])

pub latest_more : (kept : List Kept) (n : ℕ) (d : Kept) → n < length kept → latest_first (take (n + 1) kept) ≡ named (get_or kept n d) ∷ latest_first (take n kept)
latest_more kept n d h = ap (λ (ks : List Kept). map named ks) (reverse_more kept n d h)

-- a region is there where it has a place
there_by : (b : Bool) (rest : Option ℕ) (n : ℕ) → is_some (cond b (Some n) rest) ≡ (b || is_some rest)
there_by true rest n = refl
there_by false rest n = refl

pub place_there : (regions : List NamedRegion) (name : List ℕ) → is_some (place_in regions name) ≡ is_there regions name
place_there [] name = refl
place_there (r ∷ earlier) name =
    there_by (is_named name r) (place_in earlier name) (length earlier) ∙ ap (λ b. is_named name r || b) (place_there earlier name)

pub length-answers : (regions : List NamedRegion) (x : List ℤ) → length (answers regions x) ≡ length regions
length-answers [] x = refl
length-answers (r ∷ earlier) x =
    let e : length (answers earlier x) ≡ length earlier = length-answers earlier x in
    length-append (answers earlier x) (region_holds (λ other. holds earlier other x) r.region x ∷ []) ∙ omega (arith, e)

-- the answer at the place of a region is whether it holds the point
pub record Told (regions : List NamedRegion) (name : List ℕ) (x : List ℤ) (place : ℕ) : Type 0 where
  pub within : place < length regions
  pub is : holds regions name x ≡ answer_at (answers regions x) place

told_by : (b : Bool) (r : NamedRegion) (earlier : List NamedRegion) (name : List ℕ) (x : List ℤ) (place : ℕ)
    → is_named name r ≡ b → (place_in earlier name ≡ Some place → Told earlier name x place)
    → cond b (Some (length earlier)) (place_in earlier name) ≡ Some place → Told (r ∷ earlier) name x place
told_by true r earlier name x place is rest e =
    let at : length earlier ≡ place = cc in
    let n : length (answers earlier x) ≡ length earlier = length-answers earlier x in
    let p : place ≡ length (answers earlier x) = omega (arith, n, at) in
    let held = region_holds (λ other. holds earlier other x) r.region x in
    let here : answer_at (answers (r ∷ earlier) x) place ≡ held =
    ap (answer_at (answers (r ∷ earlier) x)) p ∙ get_or-append_seam (answers earlier x) held [] false in
    record { within = omega (arith, at); is = rw is (sym here) }
told_by false r earlier name x place is rest e =
    let t : Told earlier name x place = rest e in
    let n : length (answers earlier x) ≡ length earlier = length-answers earlier x in
    let within : place < length (answers earlier x) = omega (arith, n, t.within) in
    let held = region_holds (λ other. holds earlier other x) r.region x in
    let here : answer_at (answers (r ∷ earlier) x) place ≡ answer_at (answers earlier x) place =
    get_or-append (answers earlier x) (held ∷ []) false place within in
    record { within = omega (arith, t.within); is = rw is (t.is ∙ sym here) }

pub told : (regions : List NamedRegion) (name : List ℕ) (x : List ℤ) (place : ℕ) → place_in regions name ≡ Some place → Told regions name x place
told [] name x place e = cc
told (r ∷ earlier) name x place e = told_by (is_named name r) r earlier name x place refl (told earlier name x place) e

-- so are the answers at the places of several
pub any_told : (regions : List NamedRegion) (x : List ℤ) (places : List ℕ) (names : List (List ℕ))
    → map (λ place. Some place) places ≡ map (place_in regions) names
    → list_any (answer_at (answers regions x)) places ≡ list_any (λ other. holds regions other x) names
any_told regions x [] [] e = refl
any_told regions x [] (name ∷ names) e = cc
any_told regions x (place ∷ places) [] e = cc
any_told regions x (place ∷ places) (name ∷ names) e =
    let h : place_in regions name ≡ Some place = cc in
    let rest : map (λ p. Some p) places ≡ map (place_in regions) names = cc in
    let first : holds regions name x ≡ answer_at (answers regions x) place = (told regions name x place h).is in
    let others = any_told regions x places names rest in
    rw (first, others) refl

pub all_told : (regions : List NamedRegion) (x : List ℤ) (places : List ℕ) (names : List (List ℕ))
    → map (λ place. Some place) places ≡ map (place_in regions) names
    → list_all (answer_at (answers regions x)) places ≡ list_all (λ other. holds regions other x) names
all_told regions x [] [] e = refl
all_told regions x [] (name ∷ names) e = cc
all_told regions x (place ∷ places) [] e = cc
all_told regions x (place ∷ places) (name ∷ names) e =
    let h : place_in regions name ≡ Some place = cc in
    let rest : map (λ p. Some p) places ≡ map (place_in regions) names = cc in
    let first : holds regions name x ≡ answer_at (answers regions x) place = (told regions name x place h).is in
    let others = all_told regions x places names rest in
    rw (first, others) refl

-- a region by places holds what it holds by names
pub held_by : (regions : List NamedRegion) (x : List ℤ) (places : List ℕ) (region : Region)
    → map (λ place. Some place) places ≡ map (place_in regions) (names_of region)
    → holds_by (answers regions x) places region x ≡ region_holds (λ other. holds regions other x) region x
held_by regions x places (Block lo hi inside) e = refl
held_by regions x places (Sphere centre radius inside) e = refl
held_by regions x places (Union names inside) e = ap (on_side inside) (any_told regions x places names e)
held_by regions x places (Intersect names inside) e = ap (on_side inside) (all_told regions x places names e)

-- regions that stand before others are placed as they are
placed_behind : (later earlier : List Kept) → ArePlaced (later ++ earlier) → ArePlaced earlier
placed_behind [] earlier all = all
placed_behind (k ∷ later) earlier all = placed_behind later earlier all.1

placed_first : (kept : List Kept) (n : ℕ) → ArePlaced (reverse kept) → ArePlaced (reverse (take n kept))
placed_first kept n all =
    let parts : reverse kept ≡ reverse (drop n kept) ++ reverse (take n kept) =
    sym (ap reverse (take-append-drop n kept)) ∙ reverse-append (take n kept) (drop n kept) in
    placed_behind (reverse (drop n kept)) (reverse (take n kept)) (subst ArePlaced parts all)

-- one more region is judged
pub judged : (kept : List Kept) (known : List Bool) (i : ℕ) (k : Kept) (x : List ℤ) (v : Bool)
    → ArePlaced (reverse kept) → i < length kept → i < length known → k ≡ get_or kept i k
    → take i known ≡ answers (latest_first (take i kept)) x → v ≡ holds_by (take i known) k.places k.region x
    → take (i + 1) (set known i v) ≡ answers (latest_first (take (i + 1) kept)) x
judged kept known i k x v all within room at before is =
    let earlier = latest_first (take i kept) in
    let more : reverse (take (i + 1) kept) ≡ k ∷ reverse (take i kept) =
    reverse_more kept i k within ∙ ap (λ (c : Kept). c ∷ reverse (take i kept)) (sym at) in
    let placed : ArePlaced (k ∷ reverse (take i kept)) = subst ArePlaced more (placed_first kept (i + 1) all) in
    let held : v ≡ region_holds (λ other. holds earlier other x) k.region x =
    is ∙ ap (λ (ts : List Bool). holds_by ts k.places k.region x) before ∙ held_by earlier x k.places k.region placed.0 in
    let written : take (i + 1) (set known i v) ≡ take i known ++ v ∷ [] = rw add-one (take-suc-set known i v room) in
    let whole : answers (latest_first (take (i + 1) kept)) x ≡ answers earlier x ++ region_holds (λ other. holds earlier other x) k.region x ∷ [] =
    ap (λ (ks : List Kept). answers (map named ks) x) more in
    written ∙ ap (λ (ts : List Bool). ts ++ v ∷ []) before ∙ ap (λ (b : Bool). answers earlier x ++ b ∷ []) held ∙ sym whole

-- one more name has a place
pub place_more : (regions : List NamedRegion) (places : List ℕ) (names : List (List ℕ)) (i place : ℕ) (name : List ℕ)
    → map (λ p. Some p) places ≡ map (place_in regions) (take i names) → i < length names → name ≡ get_or names i name → place_in regions name ≡ Some place
    → map (λ p. Some p) (places ++ place ∷ []) ≡ map (place_in regions) (take (i + 1) names)
place_more regions places names i place name before within at here =
    let parts : take (i + 1) names ≡ take i names ++ name ∷ [] =
    rw add-one (take-suc names i name within) ∙ ap (λ (n : List ℕ). take i names ++ n ∷ []) (sym at) in
    map-append (λ p. Some p) places (place ∷ []) ∙ ap (λ (ps : List (Option ℕ)). ps ++ Some place ∷ []) before
    ∙ ap (λ (p : Option ℕ). map (place_in regions) (take i names) ++ p ∷ []) (sym here)
    ∙ sym (ap (map (place_in regions)) parts ∙ map-append (place_in regions) (take i names) (name ∷ []))

-- a name without a place is not there, one with a place is
pub not_there : (regions : List NamedRegion) (name : List ℕ) → place_in regions name ≡ None → is_there regions name ≡ false
not_there regions name e = sym (place_there regions name) ∙ ap is_some e

pub there : (regions : List NamedRegion) (name : List ℕ) (place : ℕ) → place_in regions name ≡ Some place → is_there regions name ≡ true
there regions name place e = sym (place_there regions name) ∙ ap is_some e

some_by : (p : Option ℕ) → is_some p ≡ true → p ≡ Some (unwrap_or p 0)
some_by None e = cc
some_by (Some place) e = refl

pub place_given : (regions : List NamedRegion) (name : List ℕ) → is_there regions name ≡ true → place_in regions name ≡ Some (unwrap_or (place_in regions name) 0)
place_given regions name e = some_by (place_in regions name) (place_there regions name ∙ e)
