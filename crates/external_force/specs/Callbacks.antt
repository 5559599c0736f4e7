-- What a callback promises.
use denote.Ref.{Bor}
use denote.Param.Members.{Shared}
use Rattle.std.specs.Prelude.{◌≡◌, ℕ, ℤ, List}
use Rattle.std.specs.Fn.{FnReturnsAt}
use Rattle.external_force.specs.declared.view.ExternalView.{ExternalView}
use Rattle.external_force.specs.Views.{IsNear}

-- the function may be called on a reference to this view
abbrev pub Takes : {F : Type 0} → Shared F (Bor ExternalView × Unit {0}) (List ℤ) → F → ExternalView → Type 0
Takes g f view = (p : Bor ExternalView) → p.now ≡ view → g.pre f (p, tt)

-- called on a reference to this view, the function may return these numbers
abbrev pub Answers : {F : Type 0} → Shared F (Bor ExternalView × Unit {0}) (List ℤ) → F → ExternalView → List ℤ → Type 0
Answers g f view r = FnReturnsAt g f view r

-- The function answers the rule: it may be asked about every atom that is near, and what it then answers is the pull of the
-- rule for the atom's id, type and position.
pub record Keeps {F : Type 0} (takes : F → ExternalView → Type 0) (answers : F → ExternalView → List ℤ → Type 0) (pull : ℕ → ℕ → List ℤ → List ℤ) (f : F) : Type 0 where
  pub may : (view : ExternalView) → IsNear view → takes f view
  pub right : (view : ExternalView) (r : List ℤ) → IsNear view → answers f view r → r ≡ pull view.id view.kind view.x
