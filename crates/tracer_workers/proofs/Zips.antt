-- Lists whose elements stand in a relation, place by place.
use Rattle.std.proofs.Common.{refl, ◌≡◌, ◌||◌, ◌∷◌, ◌++◌, [], Bool, List, length, sym, subst, arith}
use Rattle.std.specs.List.{All, AllByRecursion, AllZip, list_any}
use Rattle.std.proofs.lemmas.List.Elements.{All-from_recursion, recursion_from_All}

pub zip_push : {X Y : Type 0} (R : X → Y → Type 0) (xs : List X) (ys : List Y) (x : X) (y : Y) → AllZip R xs ys → R x y
    → AllZip R (xs ++ x ∷ []) (ys ++ y ∷ [])
zip_push R [] [] x y zip new = (new, tt)
zip_push R [] (b ∷ ys) x y zip new = absurd zip
zip_push R (a ∷ xs) [] x y zip new = absurd zip
zip_push R (a ∷ xs) (b ∷ ys) x y zip new = (zip.0, zip_push R xs ys x y zip.1 new)

pub zip_length : {X Y : Type 0} (R : X → Y → Type 0) (xs : List X) (ys : List Y) → AllZip R xs ys → length xs ≡ length ys
zip_length R [] [] zip = refl
zip_length R [] (b ∷ ys) zip = absurd zip
zip_length R (a ∷ xs) [] zip = absurd zip
zip_length R (a ∷ xs) (b ∷ ys) zip = let rest = zip_length R xs ys zip.1 in omega (arith, rest)

pub zip_through : {X Y Z : Type 0} (R : X → Y → Type 0) (S : Y → Z → Type 0) (T : X → Z → Type 0) (xs : List X)
    (ys : List Y) (zs : List Z) → AllZip R xs ys → AllZip S ys zs → ((x : X) (y : Y) (z : Z) → R x y → S y z → T x z)
    → AllZip T xs zs
zip_through R S T [] [] [] first second both = tt
zip_through R S T [] [] (c ∷ zs) first second both = absurd second
zip_through R S T [] (b ∷ ys) zs first second both = absurd first
zip_through R S T (a ∷ xs) [] zs first second both = absurd first
zip_through R S T (a ∷ xs) (b ∷ ys) [] first second both = absurd second
zip_through R S T (a ∷ xs) (b ∷ ys) (c ∷ zs) first second both =
    (both a b c first.0 second.0, zip_through R S T xs ys zs first.1 second.1 both)

zip_recursion : {X Y : Type 0} (P : X → Type 0) (R : X → Y → Type 0) (Q : Y → Type 0)
    → ((x : X) (y : Y) → P x → R x y → Q y) → (xs : List X) (ys : List Y) → AllZip R xs ys → AllByRecursion P xs
    → AllByRecursion Q ys
zip_recursion P R Q on [] [] zip all = tt
zip_recursion P R Q on [] (b ∷ ys) zip all = absurd zip
zip_recursion P R Q on (a ∷ xs) [] zip all = absurd zip
zip_recursion P R Q on (a ∷ xs) (b ∷ ys) zip all = (on a b all.0 zip.0, zip_recursion P R Q on xs ys zip.1 all.1)

pub zip_all : {X Y : Type 0} (P : X → Type 0) (R : X → Y → Type 0) (Q : Y → Type 0)
    → ((x : X) (y : Y) → P x → R x y → Q y) → (xs : List X) (ys : List Y) → AllZip R xs ys → All P xs → All Q ys
zip_all P R Q on xs ys zip all =
    All-from_recursion Q ys (zip_recursion P R Q on xs ys zip (recursion_from_All P xs all))

pub zip_any : {X Y : Type 0} (R : X → Y → Type 0) (f : X → Bool) (g : Y → Bool) → ((x : X) (y : Y) → R x y → f x ≡ g y)
    → (xs : List X) (ys : List Y) → AllZip R xs ys → list_any f xs ≡ list_any g ys
zip_any R f g same [] [] zip = refl
zip_any R f g same [] (b ∷ ys) zip = absurd zip
zip_any R f g same (a ∷ xs) [] zip = absurd zip
zip_any R f g same (a ∷ xs) (b ∷ ys) zip =
    λ i. same a b zip.0 i || zip_any R f g same xs ys zip.1 i

pub zip_same : {X Y : Type 0} (R : X → Y → Type 0) (xs us : List X) (ys vs : List Y) → us ≡ xs → vs ≡ ys → AllZip R xs ys
    → AllZip R us vs
zip_same R xs us ys vs first second zip =
    subst (λ zs. AllZip R zs vs) (sym first) (subst (λ zs. AllZip R xs zs) (sym second) zip)
