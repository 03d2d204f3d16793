-- What holds of each element of a list.
use Rattle.std.proofs.Common.{Bool, true, false, List, [], ◌∷◌, ◌++◌, map, cond}
use Rattle.std.specs.Prelude.{Some, filter, IfSome}
use Rattle.std.specs.List.{AllByRecursion, find, flat_map}

module _ {X : Type 0} (P : X → Type 0) where
  pub each_append : (xs ys : List X) → AllByRecursion P xs → AllByRecursion P ys → AllByRecursion P (xs ++ ys)
  each_append [] ys h k = k
  each_append (x ∷ xs) ys h k = (h.0, each_append xs ys h.1 k)

  pub each_filter : (p : X → Bool) (xs : List X) → AllByRecursion P xs → AllByRecursion P (filter p xs)
  each_filter p [] h = tt
  each_filter p (x ∷ xs) h = go (p x) (each_filter p xs h.1)
    where
      go : (b : Bool) → AllByRecursion P (filter p xs) → AllByRecursion P (cond b (x ∷ filter p xs) (filter p xs))
      go true k = (h.0, k)
      go false k = k

  pub each_map : {Y : Type 0} (f : Y → X) (ys : List Y) → ((y : Y) → P (f y)) → AllByRecursion P (map f ys)
  each_map f [] h = tt
  each_map f (y ∷ ys) h = (h y, each_map f ys h)

  pub each_mapped : {Y : Type 0} (Q : Y → Type 0) (f : Y → X) (ys : List Y) → ((y : Y) → Q y → P (f y)) → AllByRecursion Q ys → AllByRecursion P (map f ys)
  each_mapped Q f [] h k = tt
  each_mapped Q f (y ∷ ys) h k = (h y k.0, each_mapped Q f ys h k.1)

  pub each_flat : {Y : Type 0} (Q : Y → Type 0) (f : Y → List X) (ys : List Y) → ((y : Y) → Q y → AllByRecursion P (f y)) → AllByRecursion Q ys → AllByRecursion P (flat_map f ys)
  each_flat Q f [] h k = tt
  each_flat Q f (y ∷ ys) h k = each_append (f y) (flat_map f ys) (h y k.0) (each_flat Q f ys h k.1)

  pub each_find : (p : X → Bool) (xs : List X) → AllByRecursion P xs → IfSome (find p xs) P
  each_find p [] h = tt
  each_find p (x ∷ xs) h = go (p x) (each_find p xs h.1)
    where
      go : (b : Bool) → IfSome (find p xs) P → IfSome (cond b (Some x) (find p xs)) P
      go true k = h.0
      go false k = k
