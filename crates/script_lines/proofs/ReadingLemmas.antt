-- What is read without looking ahead is what the definition says, whatever follows.
use Rattle.std.proofs.Common.{◌≡◌, ◌∙◌, ◌+◌, ◌-◌, ◌≤◌, ◌==◌, ◌&&◌, ℕ, Bool, true, false, cond, List, [], ◌∷◌, ◌++◌, nat_le, refl, sym, ap, append-nil, arith, drop, lit≤}
use Rattle.std.proofs.lemmas.Bool.Decides.{nat_tests}
use Rattle.script_lines.specs.declared.modes.Mode.{Mode}
use Rattle.script_lines.specs.declared.modes.Mode.TheVariants.{Between, Word, Dollar, Formula, Single, Opened, Double, Doubled, Triple, Closed, Torn, Comment}
use Rattle.script_lines.specs.Modes.{closes, depth_of, is_formula, mode_after, next, surplus}
use Rattle.script_lines.specs.Reading.{is_dollar, mode_behind, mode_beyond, open_behind, settled, top}

pub plain_depth : (m : Mode) → is_formula m ≡ false → depth_of m ≡ 0
plain_depth (Formula depth) h = cc
plain_depth Between h = refl
plain_depth Word h = refl
plain_depth Dollar h = refl
plain_depth Single h = refl
plain_depth Opened h = refl
plain_depth Double h = refl
plain_depth Doubled h = refl
plain_depth (Triple marks) h = refl
plain_depth Closed h = refl
plain_depth Torn h = refl
plain_depth Comment h = refl

-- how deep an open parenthesis is behind a byte
-- behind one that opens
opens : (depth n : ℕ) → 1 ≤ depth → nat_le depth (n - 1) ≡ nat_le (depth + 1) n
opens depth n h = grind (arith, nat_tests)

shuts : (depth n : ℕ) → nat_le (depth + 1) (n + 1) ≡ nat_le depth n
shuts depth n = grind (arith, nat_tests)

settled-open : (depth : ℕ) (flags : List Bool) (text : List ℕ) (m : Mode) → 1 ≤ depth → settled depth flags (40 ∷ text) m ≡ settled (depth + 1) flags text m
settled-open depth [] text m h = refl
settled-open depth (false ∷ flags) text m h = settled-open (depth + 1) flags text m (omega arith)
settled-open depth (true ∷ flags) text m h =
    settled-open (depth + 1) flags text _ (omega arith)
    ∙ ap (λ b. settled (depth + 1 + 1) flags text (cond b (mode_after (Formula (depth + 1)) text) m)) (opens depth (surplus text) h)

closing : (depth : ℕ) → 1 ≤ depth → nat_le (depth + 1) 1 ≡ false
closing depth h = grind (arith, nat_tests)

back : (depth : ℕ) → depth + 1 - 1 ≡ depth
back depth = omega arith

settled-shut : (depth : ℕ) (flags : List Bool) (text : List ℕ) (m : Mode) → 1 ≤ depth → settled (depth + 1) flags (41 ∷ text) m ≡ settled depth flags text m
settled-shut depth [] text m h = refl
settled-shut depth (false ∷ flags) text m h = settled-shut (depth + 1) flags text m (omega arith)
settled-shut depth (true ∷ flags) text m h =
    settled-shut (depth + 1) flags text _ (omega arith)
    ∙ rw (closing depth h, back depth, shuts depth (surplus text)) refl

never : (depth : ℕ) → 1 ≤ depth → nat_le depth 0 ≡ false
never depth h = grind (arith, nat_tests)

settled-comment : (depth : ℕ) (flags : List Bool) (text : List ℕ) (m : Mode) → 1 ≤ depth → settled depth flags (35 ∷ text) m ≡ m
settled-comment depth [] text m h = refl
settled-comment depth (false ∷ flags) text m h = settled-comment (depth + 1) flags text m (omega arith)
settled-comment depth (true ∷ flags) text m h = settled-comment (depth + 1) flags text _ (omega arith) ∙ rw (never depth h) refl

settled-other : (depth : ℕ) (flags : List Bool) (c : ℕ) (text : List ℕ) (m : Mode) → (c == 40) ≡ false → (c == 41) ≡ false → (c == 35) ≡ false
    → settled depth flags (c ∷ text) m ≡ settled depth flags text m
settled-other depth [] c text m o s h = refl
settled-other depth (false ∷ flags) c text m o s h = settled-other (depth + 1) flags c text m o s h
settled-other depth (true ∷ flags) c text m o s h = settled-other (depth + 1) flags c text _ o s h ∙ rw (o, s, h) refl

pub settled-end : (depth : ℕ) (flags : List Bool) (m : Mode) → 1 ≤ depth → settled depth flags [] m ≡ m
settled-end depth [] m h = refl
settled-end depth (false ∷ flags) m h = settled-end (depth + 1) flags m (omega arith)
settled-end depth (true ∷ flags) m h = settled-end (depth + 1) flags _ (omega arith) ∙ rw (never depth h) refl

-- what closes ahead matters only at a `(` behind a `$`
next-other : (m : Mode) (c : ℕ) (b : Bool) → (c == 40) ≡ false → next m c b ≡ next m c false
next-other Dollar c b h = rw h refl
next-other Between c b h = refl
next-other Word c b h = refl
next-other (Formula depth) c b h = refl
next-other Single c b h = refl
next-other Opened c b h = refl
next-other Double c b h = refl
next-other Doubled c b h = refl
next-other (Triple marks) c b h = refl
next-other Closed c b h = refl
next-other Torn c b h = refl
next-other Comment c b h = refl

opened_dollar : (b : Bool) (flags : List Bool) (text : List ℕ)
    → settled 2 flags text (mode_after (cond b (Formula 1) Word) text) ≡ settled 2 flags text (cond b (mode_after (Formula 1) text) (mode_after Word text))
opened_dollar true flags text = refl
opened_dollar false flags text = refl

opened : (m : Mode) (flags : List Bool) (text : List ℕ)
    → settled 2 flags text (mode_after (next m 40 (closes text)) text) ≡ settled 1 (is_dollar m ∷ flags) text (mode_after (next m 40 false) text)
opened Dollar flags text = opened_dollar (closes text) flags text
opened Between flags text = refl
opened Word flags text = refl
opened (Formula depth) flags text = refl
opened Single flags text = refl
opened Opened flags text = refl
opened Double flags text = refl
opened Doubled flags text = refl
opened (Triple marks) flags text = refl
opened Closed flags text = refl
opened Torn flags text = refl
opened Comment flags text = refl

first_closes : (n : ℕ) → nat_le 1 (n + 1) ≡ true
first_closes n = grind (arith, nat_tests)

shut : (m : Mode) (flags : List Bool) (text : List ℕ)
    → settled 1 flags (41 ∷ text) (mode_after (next m 41 false) text) ≡ mode_beyond (cond (top flags) Word (next m 41 false)) (drop 1 flags) text
shut m [] text = refl
shut m (false ∷ flags) text = settled-shut 1 flags text _ (lit≤ tt)
shut m (true ∷ flags) text = settled-shut 1 flags text _ (lit≤ tt) ∙ rw (first_closes (surplus text)) refl

shut_next : (m : Mode) (flags : List Bool) (text : List ℕ)
    → mode_beyond m flags (41 ∷ text) ≡ mode_beyond (cond (top flags) Word (next m 41 false)) (drop 1 flags) text
shut_next m flags text = ap (λ n. settled 1 flags (41 ∷ text) (mode_after n text)) (next-other m 41 (closes text) refl) ∙ shut m flags text

-- one byte further
by_byte : (o s h : Bool) (m : Mode) (flags : List Bool) (c : ℕ) (text : List ℕ) → (c == 40) ≡ o → (c == 41) ≡ s → (c == 35) ≡ h
    → mode_beyond m flags (c ∷ text) ≡ mode_beyond (cond (s && top flags) Word (next m c false)) (cond o (is_dollar m ∷ flags) (cond s (drop 1 flags) (cond h [] flags))) text
by_byte true s h m flags c text oe se he =
    let is : c ≡ 40 = grind (arith, nat_tests) in
    let not_shut : s ≡ false = grind (arith, nat_tests) in
    rw (is, not_shut) (settled-open 1 flags text _ (lit≤ tt) ∙ opened m flags text)
by_byte false true h m flags c text oe se he =
    let is : c ≡ 41 = grind (arith, nat_tests) in
    rw is (shut_next m flags text)
by_byte false false true m flags c text oe se he =
    let is : c ≡ 35 = grind (arith, nat_tests) in
    rw is (settled-comment 1 flags text _ (lit≤ tt) ∙ ap (λ n. mode_after n text) (next-other m 35 (closes text) refl))
by_byte false false false m flags c text oe se he =
    settled-other 1 flags c text _ oe se he ∙ ap (λ n. settled 1 flags text (mode_after n text)) (next-other m c (closes text) oe)

pub mode_beyond-more : (m : Mode) (flags : List Bool) (c : ℕ) (text : List ℕ)
    → mode_beyond m flags (c ∷ text) ≡ mode_beyond (mode_behind m flags c) (open_behind m flags c) text
mode_beyond-more m flags c text = by_byte (c == 40) (c == 41) (c == 35) m flags c text refl refl refl

pub read_more : (m after : Mode) (flags behind : List Bool) (c : ℕ) (rest : List ℕ)
    → after ≡ mode_behind m flags c → behind ≡ open_behind m flags c → mode_beyond m flags (c ∷ rest) ≡ mode_beyond after behind rest
read_more m after flags behind c rest a b = mode_beyond-more m flags c rest ∙ rw (a, b) refl

-- at its end a text stands in the mode that is carried
pub mode_at_end : (text : List ℕ) (m : Mode) (flags : List Bool) → ((more : List ℕ) → mode_beyond m flags more ≡ mode_after Between (text ++ more)) → mode_after Between text ≡ m
mode_at_end text m flags read = ap (mode_after Between) (sym (append-nil text)) ∙ sym (read []) ∙ settled-end 1 flags m (lit≤ tt)
