-- What is left of a style where so many values of an index variable are past.
use Rattle.std.specs.Prelude.{ℕ, drop}
use Rattle.var_table.specs.declared.styles.VarStyle.{VarStyle}
use Rattle.var_table.specs.declared.styles.VarStyle.TheVariants.{Index, Loop, Equal, AtomWise, Plain}

abbrev pub left_of : VarStyle → ℕ → VarStyle
left_of (Index values) past = Index (drop past values)
left_of (Loop first last) past = Loop first last
left_of (Equal formula) past = Equal formula
left_of (AtomWise formula) past = AtomWise formula
left_of (Plain text) past = Plain text
