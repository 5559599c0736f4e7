-- Calls whose names and bytes lie one after the other: one more at the end.
use Rattle.std.proofs.Common.{◌≡◌, ◌+◌, ◌≤◌, List, [], ◌∷◌, ◌++◌, length, take, drop, sym, ◌∙◌, ap, arith, append_assoc, length-append}
use Rattle.std.proofs.lemmas.List.{take_at, drop_at, take_all, length-drop, take-append-le, drop-append-le}
use Rattle.disk_outside.specs.Disk.{Bytes}
use Rattle.disk_outside.specs.Memory.{ops_of, pool_length}
use Rattle.disk_outside.specs.declared.calls.Call.{Call}

pub pool_length-more : (calls : List Call) (call : Call) → pool_length (calls ++ call ∷ []) ≡ pool_length calls + (call.name + call.bytes)
pool_length-more [] call = omega arith
pool_length-more (c ∷ calls) call = omega (arith, pool_length-more calls call)

-- the call behind an empty list of calls
last : (call : Call) (name bytes : Bytes) → call.name ≡ length name → call.bytes ≡ length bytes → ops_of (call ∷ []) (name ++ bytes) ≡ record { number = call.number; kind = call.kind; name = name; at = call.at; bytes = bytes } ∷ []
last call name bytes n b = λ i. record { number = call.number; kind = call.kind; name = title i; at = call.at; bytes = data_is i } ∷ []
  where
    title : take call.name (name ++ bytes) ≡ name
    title = take_at name bytes call.name (sym n)

    data_is : take call.bytes (drop call.name (name ++ bytes)) ≡ bytes
    data_is = ap (take call.bytes) (drop_at name bytes call.name (sym n)) ∙ take_all call.bytes bytes (omega (arith, b))

pub ops_more : (calls : List Call) (pool : Bytes) (call : Call) (name bytes : Bytes) → pool_length calls ≡ length pool → call.name ≡ length name → call.bytes ≡ length bytes
    → ops_of (calls ++ call ∷ []) (pool ++ (name ++ bytes)) ≡ ops_of calls pool ++ record { number = call.number; kind = call.kind; name = name; at = call.at; bytes = bytes } ∷ []
ops_more [] [] call name bytes l n b = last call name bytes n b
ops_more [] (x ∷ pool) call name bytes l n b = absurd (omega (arith, l))
ops_more (c ∷ calls) pool call name bytes l n b =
    let added : Bytes = name ++ bytes in
    let title : take c.name (pool ++ added) ≡ take c.name pool = take-append-le c.name pool added (omega (arith, l)) in
    let behind : drop c.name (pool ++ added) ≡ drop c.name pool ++ added = drop-append-le c.name pool added (omega (arith, l)) in
    let fits : c.bytes ≤ length (drop c.name pool) = omega (arith, l, length-drop c.name pool) in
    let data_is : take c.bytes (drop c.name (pool ++ added)) ≡ take c.bytes (drop c.name pool) = ap (take c.bytes) behind ∙ take-append-le c.bytes (drop c.name pool) added fits in
    let rest : drop c.bytes (drop c.name (pool ++ added)) ≡ drop c.bytes (drop c.name pool) ++ added = ap (drop c.bytes) behind ∙ drop-append-le c.bytes (drop c.name pool) added fits in
    let left : pool_length calls ≡ length (drop c.bytes (drop c.name pool)) = omega (arith, l, length-drop c.name pool, length-drop c.bytes (drop c.name pool)) in
    let tail : ops_of (calls ++ call ∷ []) (drop c.bytes (drop c.name (pool ++ added))) ≡ ops_of calls (drop c.bytes (drop c.name pool)) ++ record { number = call.number; kind = call.kind; name = name; at = call.at; bytes = bytes } ∷ [] = ap (ops_of (calls ++ call ∷ [])) rest ∙ ops_more calls (drop c.bytes (drop c.name pool)) call name bytes left n b in
    λ i. record { number = c.number; kind = c.kind; name = title i; at = c.at; bytes = data_is i } ∷ tail i

module _ (calls calls2 : List Call) (pool pool2 : Bytes) (call : Call) (name bytes : Bytes) (l : pool_length calls ≡ length pool) (n : call.name ≡ length name) (b : call.bytes ≡ length bytes) (c : calls2 ≡ calls ++ call ∷ []) (p : pool2 ≡ pool ++ name ++ bytes) where
  pub parts_more : pool_length calls2 ≡ length pool2
  parts_more = omega (arith, ap pool_length c, pool_length-more calls call, ap length p, length-append (pool ++ name) bytes, length-append pool name)

  pub calls_more : ops_of calls2 pool2 ≡ ops_of calls pool ++ record { number = call.number; kind = call.kind; name = name; at = call.at; bytes = bytes } ∷ []
  calls_more = (λ i. ops_of (c i) ((p ∙ append_assoc pool name bytes) i)) ∙ ops_more calls pool call name bytes l n b
