use Rattle.std.proofs.Common.{◌≡◌, ℕ, ℤ, List, length, pos, sym, ◌∙◌, ap}
use Rattle.std.proofs.lemmas.List.{length-map, length-replicate}
use Rattle.fx_num.specs.Rounding.{div_rounded}
use Rattle.ave_time.specs.Windows.{averages_of, next_window, plus, sampled}
use Rattle.ave_time.specs.declared.parts.WindowParts.{WindowParts}
use Rattle.ave_time.proofs.SumLemmas.{length-plus}
use Rattle.ave_time.proofs.window.Window.push.Goals as goal

-- there are as many averages as sums, of the next window too
averaged_room : (p q : WindowParts) (repeat : ℕ) (values averages : List ℤ) → averages ≡ averages_of repeat (plus p.sums values) → q ≡ next_window p → length averages ≡ length q.sums
averaged_room p q repeat values averages a b =
    ap length a ∙ length-map (plus p.sums values) (λ s. div_rounded s (pos repeat)) ∙ length-plus p.sums values ∙ sym (length-replicate (length p.sums) (pos 0)) ∙ ap (λ (w : WindowParts). length w.sums) (sym b)

sampled_room : (p q : WindowParts) (values averages : List ℤ) → length averages ≡ length p.sums → q ≡ sampled p values → length averages ≡ length q.sums
sampled_room p q values averages h b = h ∙ sym (length-plus p.sums values) ∙ ap (λ (w : WindowParts). length w.sums) (sym b)

pub invariant_of-self : goal.invariant_of-self
invariant_of-self c = (c.end_window.ensures.window, averaged_room c.self.inside.parts c.end_window.new.parts c.self.inside.parts.repeat c.args.values.now c.end_window.new.averages c.end_window.ensures.averages c.end_window.ensures.is)

pub invariant_of-self-then-is_sample : goal.invariant_of-self-then-is_sample
invariant_of-self-then-is_sample c = (c.take_sample.ensures.window, sampled_room c.self.inside.parts c.take_sample.new.parts c.args.values.now c.self.inside.averages c.self.invariant.1 c.take_sample.ensures.is)
