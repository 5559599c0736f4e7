-- The operations of formulas, on whole numbers of units of 2^-24. A result of magnitude above 2^62 units is out of range.
use Rattle.std.specs.Prelude.{◌+◌, ◌*◌, ◌/◌, ◌%◌, ◌^◌, ◌==◌, ◌&&◌, ◌||◌, cond, not, nat_le, Bool, true, false, ℕ, zero, suc, ℤ, pos, negsuc, neg_ℤ, ◌+ℤ◌, ◌-ℤ◌, ◌*ℤ◌, int_lt, int_rem, unsigned_abs, Result, Ok, Err}
use Rattle.std.specs.Ordering.{int_eq}
use Rattle.fx_num.specs.Rounding.{div_rounded, shr_rounded}
use Rattle.fx_num.specs.Roots.{sqrt_of}
use Rattle.formula.specs.declared.tree.Operator.{Operator}
use Rattle.formula.specs.declared.tree.Operator.TheVariants.{Or, And, Equal, NotEqual, Less, LessEqual, Greater, GreaterEqual, Add, Subtract, Multiply, Divide, Remainder, Power}
use Rattle.formula.specs.declared.tree.Sign.{Sign}
use Rattle.formula.specs.declared.tree.Sign.TheVariants.{Minus, Not}
use Rattle.formula.specs.declared.tree.Function.{Function}
use Rattle.formula.specs.declared.tree.Function.TheVariants.{Sqrt, Abs, Floor, Ceil, Round}
use Rattle.formula.specs.declared.arithmetic.TheConstants.{MAX_EXPONENT}
use Rattle.formula.specs.declared.arithmetic.Failure.{Failure}
use Rattle.formula.specs.declared.arithmetic.Failure.TheVariants.{DivideByZero, OutOfRange}

-- a value is of magnitude at most 2^62 units
abbrev pub is_value : ℤ → Bool
is_value v = nat_le (unsigned_abs v) (2 ^ 62)

abbrev pub limited : ℤ → Result ℤ Failure
limited v = cond (is_value v) (Ok v) (Err OutOfRange)

-- 1 and 0 as answers
abbrev pub truth : Bool → ℤ
truth true = pos (2 ^ 24)
truth false = pos 0

abbrev pub is_zero : ℤ → Bool
is_zero (pos n) = n == 0
is_zero (negsuc n) = false

-- the product, rounded
abbrev pub multiplied : ℤ → ℤ → Result ℤ Failure
multiplied a b = limited (shr_rounded (a *ℤ b) 24)

-- the quotient, rounded
abbrev pub divided : ℤ → ℤ → Result ℤ Failure
divided a (pos zero) = Err DivideByZero
divided a (pos (suc n)) = limited (div_rounded (a *ℤ pos (2 ^ 24)) (pos (suc n)))
divided a (negsuc n) = limited (div_rounded (neg_ℤ a *ℤ pos (2 ^ 24)) (pos (suc n)))

-- what is left of a by division by b, with the sign of a
abbrev pub remainder : ℤ → ℤ → Result ℤ Failure
remainder a b = cond (is_zero b) (Err DivideByZero) (Ok (int_rem a b))

-- one factor more
abbrev pub times : Result ℤ Failure → ℤ → Result ℤ Failure
times (Err failure) a = Err failure
times (Ok product) a = multiplied product a

-- 1, multiplied n times by a, each product rounded and within the range
abbrev pub power_of : ℤ → ℕ → Result ℤ Failure
power_of a zero = Ok (pos (2 ^ 24))
power_of a (suc n) = times (power_of a n) a

-- the exponent is a whole number from 0 to MAX_EXPONENT
abbrev pub powered : ℤ → ℤ → Result ℤ Failure
powered a (pos n) = cond ((n % 2 ^ 24 == 0) && nat_le (n / 2 ^ 24) MAX_EXPONENT) (power_of a (n / 2 ^ 24)) (Err OutOfRange)
powered a (negsuc n) = Err OutOfRange

-- an operator between two values
abbrev pub operation : Operator → ℤ → ℤ → Result ℤ Failure
operation Or a b = Ok (truth (not (is_zero a) || not (is_zero b)))
operation And a b = Ok (truth (not (is_zero a) && not (is_zero b)))
operation Equal a b = Ok (truth (int_eq a b))
operation NotEqual a b = Ok (truth (not (int_eq a b)))
operation Less a b = Ok (truth (int_lt a b))
operation LessEqual a b = Ok (truth (not (int_lt b a)))
operation Greater a b = Ok (truth (int_lt b a))
operation GreaterEqual a b = Ok (truth (not (int_lt a b)))
operation Add a b = limited (a +ℤ b)
operation Subtract a b = limited (a -ℤ b)
operation Multiply a b = multiplied a b
operation Divide a b = divided a b
operation Remainder a b = remainder a b
operation Power a b = powered a b

-- a sign before a value
abbrev pub with_sign_of : Sign → ℤ → ℤ
with_sign_of Minus a = neg_ℤ a
with_sign_of Not a = truth (is_zero a)

-- the greatest whole number that is not above
abbrev pub floor_of : ℤ → ℤ
floor_of (pos n) = pos (n / 2 ^ 24 * 2 ^ 24)
floor_of (negsuc n) = neg_ℤ (pos ((n / 2 ^ 24 + 1) * 2 ^ 24))

-- a function of a value
abbrev pub function_value : Function → ℤ → Result ℤ Failure
function_value Sqrt (pos n) = Ok (pos (sqrt_of (n * 2 ^ 24)))
function_value Sqrt (negsuc n) = Err OutOfRange
function_value Abs a = Ok (pos (unsigned_abs a))
function_value Floor a = Ok (floor_of a)
function_value Ceil a = Ok (neg_ℤ (floor_of (neg_ℤ a)))
function_value Round a = Ok (shr_rounded a 24 *ℤ pos (2 ^ 24))
