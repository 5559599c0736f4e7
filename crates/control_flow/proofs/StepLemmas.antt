-- The next line of open files.
use Rattle.std.proofs.Common.{◌≡◌, ◌∙◌, ℕ, Bool, List, [], ◌∷◌, Ok, drop, length, refl, sym, ap}
use Rattle.script_lines.specs.Script.{no_lines}
use Rattle.control_flow.specs.declared.event.FlowEvent.TheVariants as event
use Rattle.control_flow.specs.declared.refusals.FlowRefusal.{FlowRefusal}
use Rattle.control_flow.specs.declared.refusals.FlowRefusal.TheVariants.{Line, Budget, NoLabel, IncludeTooDeep, NoMemory}
use Rattle.control_flow.specs.Flow.{FlowState, LineName, OpenFile, at_end, outermost, stepped, stepped_in}
use Rattle.control_flow.specs.Labels.{IsRefusal, IsUnread}

-- the innermost file refuses
pub refused_is : (why : FlowRefusal) (file : OpenFile) (outer : List OpenFile) (flow : FlowState) → IsUnread why file.name file.left → IsRefusal why (stepped_in flow (file ∷ outer))
refused_is (Line name why) file outer flow h = rw (h.1, h.0) refl
refused_is (Budget name number) file outer flow h = absurd h
refused_is (NoLabel label) file outer flow h = absurd h
refused_is IncludeTooDeep file outer flow h = absurd h
refused_is NoMemory file outer flow h = tt

-- the innermost file has no line left
pub over_is : (file : OpenFile) (outer : List OpenFile) (flow : FlowState) → file.left ≡ no_lines → stepped_in flow (file ∷ outer) ≡ stepped_in flow outer
over_is file outer flow h = rw h refl

-- all files but the outermost are closed
pub outermost_is : (file : OpenFile) (outer : List OpenFile) → drop (length outer) (file ∷ outer) ≡ outermost file outer ∷ []
outermost_is file [] = refl
outermost_is file (next ∷ outer) = outermost_is next outer

-- a flow with its outermost file alone
pub end_is : (old new : FlowState) → new.file ∷ new.outer ≡ drop (length old.outer) (old.file ∷ old.outer) → new.skips ≡ old.skips → new.last ≡ old.last → new.count ≡ old.count
    → at_end old ≡ new
end_is old new closed skips last count =
    let e : new.file ∷ new.outer ≡ outermost old.file old.outer ∷ [] = closed ∙ outermost_is old.file old.outer in
    let file : outermost old.file old.outer ≡ new.file = cc in
    let outer : [] ≡ new.outer = cc in
    ap (λ (f : OpenFile). record old { file = f; outer = [] }) file
    ∙ ap (λ (o : List OpenFile). record old { file = new.file; outer = o }) outer
    ∙ ap (λ (b : Bool). record old { file = new.file; outer = new.outer; skips = b }) (sym skips)
    ∙ ap (λ (l : LineName). record old { file = new.file; outer = new.outer; skips = new.skips; last = l }) (sym last)
    ∙ ap (λ (n : ℕ). record new { count = n }) (sym count)

-- no file has a line left
pub ended_is : (old new : FlowState) (file : OpenFile) (outer : List OpenFile) (n : ℕ) → file ≡ old.file → outer ≡ old.outer → n ≡ length outer
    → ((flow : FlowState) → stepped_in flow (file ∷ outer) ≡ stepped_in flow []) → new.file ∷ new.outer ≡ drop n (file ∷ outer)
    → new.skips ≡ old.skips → new.last ≡ old.last → new.count ≡ old.count → stepped old ≡ Ok (event.End, new)
ended_is old new file outer n f o len over closed skips last count =
    let whole : new.file ∷ new.outer ≡ drop (length old.outer) (old.file ∷ old.outer) = rw (← f, ← o, ← len) closed in
    let files : old.file ∷ old.outer ≡ file ∷ outer = cc in
    ap (stepped_in old) files ∙ over old ∙ ap (λ (s : FlowState). Ok (event.End, s)) (end_is old new whole skips last count)
