-- Where a name stands, and how a definition and a next change the table.
use Rattle.std.proofs.Common.{◌≡◌, ◌+◌, ◌-◌, ◌<◌, ◌≤◌, ◌||◌, ℕ, suc, Bool, true, false, cond, List, [], ◌∷◌, ◌++◌, Some, None, length, take, drop, get_or, set, refl, ap, arith}
use Rattle.std.specs.List.{list_any}
use Rattle.var_table.specs.declared.styles.VarStyle.{VarStyle}
use Rattle.var_table.specs.Variables.{Named, all_next, is_exhausted, is_named, is_there, place_from, put}

abbrev pub named : List ℕ → VarStyle → Named
named name style = record { name = name; style = style }

-- the place of a name, where it stands
pub record Placed (table : List Named) (name : List ℕ) (i k : ℕ) : Type 0 where
  pub from : i ≤ k
  pub within : k < i + length table
  pub there : is_there table name ≡ true
  pub puts : (style : VarStyle) (v : Named) → v ≡ get_or table (k - i) v → put table name style ≡ set table (k - i) record { name = v.name; style = style }

-- the first variables of a table have gone on, the others are to come
pub record Advanced (names : List (List ℕ)) (old now : List Named) (i : ℕ) (exhausted : Bool) : Type 0 where
  pub next : take i now ++ all_next names (drop i now) ≡ all_next names old
  pub any : (exhausted || list_any (is_exhausted names) (drop i now)) ≡ list_any (is_exhausted names) old
  pub within : i ≤ length now

placed_by : (b : Bool) (v : Named) (table : List Named) (name : List ℕ) (i k : ℕ)
    → is_named name v ≡ b → (place_from (i + 1) table name ≡ Some k → Placed table name (i + 1) k) → cond b (Some i) (place_from (i + 1) table name) ≡ Some k
    → Placed (v ∷ table) name i k
placed_by true v table name i k is rest e =
    let same : i ≡ k = cc in
    let at : k - i ≡ 0 = omega arith in
    record {
      from = omega arith;
      within = omega arith;
      there = rw is refl;
      puts = λ style w h. rw (is, at) (let w_is : w ≡ v = (rw at at h) in rw w_is refl);
    }
placed_by false v table name i k is rest e =
    let p : Placed table name (i + 1) k = rest e in
    let at : k - i ≡ suc (k - (i + 1)) = omega (arith, p.from) in
    record {
      from = omega (arith, p.from);
      within = omega (arith, p.within);
      there = rw is p.there;
      puts = λ style w h. rw (is, at) (ap (λ t. v ∷ t) (p.puts style w (rw at at h)));
    }

pub placed : (table : List Named) (name : List ℕ) (i k : ℕ) → place_from i table name ≡ Some k → Placed table name i k
placed [] name i k e = cc
placed (v ∷ table) name i k e = placed_by (is_named name v) v table name i k refl (placed table name (i + 1) k) e

-- a name that stands nowhere
pub record Absent (table : List Named) (name : List ℕ) : Type 0 where
  pub absent : is_there table name ≡ false
  pub puts : (style : VarStyle) → put table name style ≡ table ++ record { name = name; style = style } ∷ []

absent_by : (b : Bool) (v : Named) (table : List Named) (name : List ℕ) (i : ℕ)
    → is_named name v ≡ b → (place_from (i + 1) table name ≡ None → Absent table name) → cond b (Some i) (place_from (i + 1) table name) ≡ None
    → Absent (v ∷ table) name
absent_by true v table name i is rest e = cc
absent_by false v table name i is rest e =
    let p : Absent table name = rest e in
    record { absent = rw is p.absent; puts = λ style. rw is (ap (λ t. v ∷ t) (p.puts style)) }

pub absent : (table : List Named) (name : List ℕ) (i : ℕ) → place_from i table name ≡ None → Absent table name
absent [] name i e = record { absent = refl; puts = λ style. refl }
absent (v ∷ table) name i e = absent_by (is_named name v) v table name i refl (absent table name (i + 1)) e
