-- Orders of ports, and the tables that they pick.
use Rattle.std.proofs.Common.{◌≡◌, ℕ, zero, suc, ◌+◌, ◌<◌, ◌≤◌, List, [], ◌∷◌, ◌++◌, length, take, drop, get_or, append_assoc, add-one, Bool, true, false, cond, refl, ap, sym, ◌∙◌, arith}
use Rattle.std.specs.Prelude.{sum_by, map, nat_eq, nat_lt}
use Rattle.std.specs.List.{flat_map, All}
use Rattle.std.proofs.lemmas.Bool.{eqb-true, eqb-false, eq-eqb, ne_eqb, ltb-true, lt-ltb}
use Rattle.std.proofs.Math.Seq.{drop-cons}
use Rattle.std.proofs.Math.ListN.{drop_of_length-le}
use Rattle.std.proofs.lemmas.List.{map-append, take_more}
use Rattle.std.proofs.lemmas.List.Sums.{sum_by-cons}
use Rattle.std.proofs.lemmas.List.Elements.{All-nil, All-cons, All-head, All-tail, All-append, All-map, All-weaker}
use Rattle.cedr_base.specs.declared.row.Row.{Row}
use Rattle.cedr_table.specs.Operators.{Tables, table_at, with_table, SameTables}
use Rattle.cedr_table.specs.PortLaws.{table_at-with, table_at-with_other, same_at}
use Rattle.pat_state.specs.Starts.{endless_tables}
use Rattle.pat_state.specs.Answers.{AllAmong}
use Rattle.pat_state.specs.Steps.{picked, AreAmongPorts}
use Rattle.pat_state.proofs.FlatLemmas.{flat_map-like, flat_map-map}
use Rattle.pat_state.proofs.EndlessLemmas.{among_at, endless_at}
use Rattle.pat_atleast.specs.Arrangements.{placed, arranged, ports_from}
use Rattle.pat_atleast.specs.Finding.{order_place}

-- a port isn't in an order behind its place
abbrev pub StandsOnce : ℕ → List ℕ → Type 0
StandsOnce port [] = Unit {0}
StandsOnce port (q ∷ qs) = (q ≡ port → length qs ≤ order_place port qs) × StandsOnce port qs

-- a port that an order doesn't have: another table there isn't picked
pub picked_without : (port : ℕ) (rows : List Row) (tables : Tables) (order : List ℕ) → length order ≤ order_place port order → picked order (with_table tables port rows) ≡ picked order tables
picked_without port rows tables [] far = refl
picked_without port rows tables (q ∷ qs) far = at (nat_eq q port) refl far (λ rest. picked_without port rows tables qs rest) where
  at : (b : Bool) → nat_eq q port ≡ b → suc (length qs) ≤ cond b 0 (suc (order_place port qs)) → (length qs ≤ order_place port qs → picked qs (with_table tables port rows) ≡ picked qs tables) → picked (q ∷ qs) (with_table tables port rows) ≡ picked (q ∷ qs) tables
  at true same early rest = absurd (omega arith)
  at false other early rest =
      let first = table_at-with_other tables port q rows (eqb-false q port other) in
      let others = rest (omega arith) in
      λ i. first i ∷ others i

-- a port that it has once: another table there is picked at its place
pub picked_with : (port : ℕ) (rows : List Row) (tables : Tables) (order : List ℕ) → port < length tables → StandsOnce port order → order_place port order < length order → picked order (with_table tables port rows) ≡ with_table (picked order tables) (order_place port order) rows
picked_with port rows tables [] within once near = absurd (omega arith)
picked_with port rows tables (q ∷ qs) within once near = at (nat_eq q port) refl near (λ rest. picked_with port rows tables qs within once.1 rest) where
  at : (b : Bool) → nat_eq q port ≡ b → cond b 0 (suc (order_place port qs)) < suc (length qs) → (order_place port qs < length qs → picked qs (with_table tables port rows) ≡ with_table (picked qs tables) (order_place port qs) rows)
      → picked (q ∷ qs) (with_table tables port rows) ≡ with_table (picked (q ∷ qs) tables) (cond b 0 (suc (order_place port qs))) rows
  at true same early rest =
      let is = eqb-true q port same in
      let first = ap (λ (p : ℕ). table_at (with_table tables port rows) p) is ∙ table_at-with tables port rows within in
      let others = picked_without port rows tables qs (once.0 is) in
      λ i. first i ∷ others i
  at false other early rest =
      let first = table_at-with_other tables port q rows (eqb-false q port other) in
      let others = rest (omega arith) in
      λ i. first i ∷ others i

-- what holds of all ports holds of those that are picked
pub picked_among : (p : Row → Bool) (order : List ℕ) (ts us : Tables) → AllAmong p ts us → AllAmong p (picked order ts) (picked order us)
picked_among p [] ts us are = tt
picked_among p (q ∷ qs) ts us are = (among_at p ts us q are, picked_among p qs ts us are)

pub picked_same : (order : List ℕ) (ts us : Tables) → SameTables ts us → SameTables (picked order ts) (picked order us)
picked_same [] ts us same = tt
picked_same (q ∷ qs) ts us same = (same_at q ts us same, picked_same qs ts us same)

pub picked_endless : (order : List ℕ) (ts : Tables) → picked order (endless_tables ts) ≡ endless_tables (picked order ts)
picked_endless [] ts = refl
picked_endless (q ∷ qs) ts = λ i. endless_at ts q i ∷ picked_endless qs ts i

-- A weight of things adds up over an arrangement to what it does over them.
placed_weighs : (w : ℕ → ℕ) (x : ℕ) (ys : List ℕ) → All (λ zs. sum_by w zs ≡ w x + sum_by w ys) (placed x ys)
placed_weighs w x [] = All-cons (λ zs. sum_by w zs ≡ w x + sum_by w []) (x ∷ []) [] (sum_by-cons w x []) (All-nil (λ zs. sum_by w zs ≡ w x + sum_by w []))
placed_weighs w x (y ∷ ys) =
    let holds = λ (zs : List ℕ). sum_by w zs ≡ w x + sum_by w (y ∷ ys) in
    All-cons holds (x ∷ y ∷ ys) (map (λ zs. y ∷ zs) (placed x ys)) (sum_by-cons w x (y ∷ ys))
    (All-map holds (λ zs. y ∷ zs) (placed x ys) (All-weaker (λ zs. sum_by w zs ≡ w x + sum_by w ys) (λ zs. holds (y ∷ zs)) (λ zs same. omega (arith, same, sum_by-cons w y zs, sum_by-cons w y ys)) (placed x ys) (placed_weighs w x ys)))

-- what holds of what is made of each thing
pub all_made : {X Y : Type 0} (holds : Y → Type 0) (f : X → List Y) (xs : List X) → All (λ x. All holds (f x)) xs → All holds (flat_map f xs)
all_made holds f [] all = All-nil holds
all_made holds f (x ∷ xs) all = All-append holds (f x) (flat_map f xs) (All-head (λ x. All holds (f x)) x xs all) (all_made holds f xs (All-tail (λ x. All holds (f x)) x xs all))

arranged_weighs : (w : ℕ → ℕ) (n : ℕ) (xs : List ℕ) → All (λ order. sum_by w order ≤ sum_by w xs) (arranged n xs)
arranged_weighs w zero xs = All-cons (λ order. sum_by w order ≤ sum_by w xs) [] [] (omega arith) (All-nil (λ order. sum_by w order ≤ sum_by w xs))
arranged_weighs w (suc n) [] = All-nil (λ order. sum_by w order ≤ sum_by w [])
arranged_weighs w (suc n) (x ∷ xs) =
    let holds = λ (order : List ℕ). sum_by w order ≤ sum_by w (x ∷ xs) in
    All-append holds (flat_map (placed x) (arranged n xs)) (arranged (suc n) xs)
    (all_made holds (placed x) (arranged n xs)
    (All-weaker (λ order. sum_by w order ≤ sum_by w xs) (λ order. All holds (placed x order))
    (λ order less. All-weaker (λ zs. sum_by w zs ≡ w x + sum_by w order) holds (λ zs same. omega (arith, less, same, sum_by-cons w x xs)) (placed x order) (placed_weighs w x order))
    (arranged n xs) (arranged_weighs w n xs)))
    (All-weaker (λ order. sum_by w order ≤ sum_by w xs) holds (λ order less. omega (arith, less, sum_by-cons w x xs)) (arranged (suc n) xs) (arranged_weighs w (suc n) xs))

-- whether a port is a port
abbrev is_port : ℕ → ℕ → ℕ
is_port port q = cond {A = ℕ} (nat_eq q port) 1 0

-- whether a port is none of so many
abbrev is_beyond : ℕ → ℕ → ℕ
is_beyond ports q = cond {A = ℕ} (nat_lt q ports) 0 1

absent : (port : ℕ) (order : List ℕ) → sum_by (is_port port) order ≡ 0 → length order ≤ order_place port order
absent port [] none = omega arith
absent port (q ∷ qs) none = at (nat_eq q port) (omega (arith, none, sum_by-cons (is_port port) q qs)) (λ rest. absent port qs rest) where
  at : (b : Bool) → cond {A = ℕ} b 1 0 + sum_by (is_port port) qs ≡ 0 → (sum_by (is_port port) qs ≡ 0 → length qs ≤ order_place port qs) → suc (length qs) ≤ cond b 0 (suc (order_place port qs))
  at true some rest = absurd (omega arith)
  at false some rest = let far = rest (omega arith) in omega arith

once_at : (q port rest : ℕ) (b : Bool) → nat_eq q port ≡ b → q ≡ port → cond {A = ℕ} b 1 0 + rest ≤ 1 → rest ≡ 0
once_at q port rest true is same few = omega arith
once_at q port rest false is same few = absurd (eqb-false q port is same)

stands_once : (port : ℕ) (order : List ℕ) → sum_by (is_port port) order ≤ 1 → StandsOnce port order
stands_once port [] few = tt
stands_once port (q ∷ qs) few = (
  λ same. absent port qs (once_at q port (sum_by (is_port port) qs) (nat_eq q port) refl same (omega (arith, few, sum_by-cons (is_port port) q qs))),
  stands_once port qs (omega (arith, few, sum_by-cons (is_port port) q qs)),
)

port_at : (q ports rest : ℕ) (b : Bool) → nat_lt q ports ≡ b → cond {A = ℕ} b 0 1 + rest ≡ 0 → q < ports
port_at q ports rest true is none = ltb-true q ports is
port_at q ports rest false is none = absurd (omega arith)

are_ports : (ports : ℕ) (order : List ℕ) → sum_by (is_beyond ports) order ≡ 0 → AreAmongPorts ports order
are_ports ports [] none place within = absurd (omega arith)
are_ports ports (q ∷ qs) none zero within = port_at q ports (sum_by (is_beyond ports) qs) (nat_lt q ports) refl (omega (arith, none, sum_by-cons (is_beyond ports) q qs))
are_ports ports (q ∷ qs) none (suc place) within = are_ports ports qs (omega (arith, none, sum_by-cons (is_beyond ports) q qs)) place (omega arith)

is_none : (q port : ℕ) → port < q → is_port port q ≡ 0
is_none q port less = ap (λ b. cond {A = ℕ} b 1 0) (ne_eqb q port (λ e. omega arith))

is_one_or_none : (b : Bool) → cond {A = ℕ} b 1 0 ≤ 1
is_one_or_none true = omega arith
is_one_or_none false = omega arith

later_ports : (port first n : ℕ) → port < first → sum_by (is_port port) (ports_from first n) ≡ 0
later_ports port first zero less = refl
later_ports port first (suc n) less = omega (arith, sum_by-cons (is_port port) first (ports_from (suc first) n), is_none first port less, later_ports port (suc first) n (omega arith))

first_once : (port first rest : ℕ) (b : Bool) → nat_eq first port ≡ b → (port < suc first → rest ≡ 0) → rest ≤ 1 → cond {A = ℕ} b 1 0 + rest ≤ 1
first_once port first rest true is later few = let same = eqb-true first port is in let none = later (omega arith) in omega arith
first_once port first rest false is later few = omega arith

ports_once : (port first n : ℕ) → sum_by (is_port port) (ports_from first n) ≤ 1
ports_once port first zero = omega arith
ports_once port first (suc n) =
    let one = first_once port first (sum_by (is_port port) (ports_from (suc first) n)) (nat_eq first port) refl (λ less. later_ports port (suc first) n less) (ports_once port (suc first) n) in
    omega (arith, one, sum_by-cons (is_port port) first (ports_from (suc first) n))

within_ports : (ports first n : ℕ) → first + n ≤ ports → sum_by (is_beyond ports) (ports_from first n) ≡ 0
within_ports ports first zero few = refl
within_ports ports first (suc n) few =
    omega (arith, sum_by-cons (is_beyond ports) first (ports_from (suc first) n), ap (λ b. cond {A = ℕ} b 0 1) (lt-ltb first ports (omega arith)), within_ports ports (suc first) n (omega arith))

-- orders of the ports have these ports alone
pub orders_are_ports : (number ports : ℕ) → All (AreAmongPorts ports) (arranged number (ports_from 0 ports))
orders_are_ports number ports =
    All-weaker (λ order. sum_by (is_beyond ports) order ≤ sum_by (is_beyond ports) (ports_from 0 ports)) (AreAmongPorts ports)
    (λ order less. are_ports ports order (omega (arith, less, within_ports ports 0 ports (omega arith))))
    (arranged number (ports_from 0 ports)) (arranged_weighs (is_beyond ports) number (ports_from 0 ports))

-- and each of them once at most
pub orders_stand_once : (number ports port : ℕ) → All (StandsOnce port) (arranged number (ports_from 0 ports))
orders_stand_once number ports port =
    All-weaker (λ order. sum_by (is_port port) order ≤ sum_by (is_port port) (ports_from 0 ports)) (StandsOnce port)
    (λ order less. stands_once port order (omega (arith, less, ports_once port 0 ports)))
    (arranged number (ports_from 0 ports)) (arranged_weighs (is_port port) number (ports_from 0 ports))

-- What is made of each thing may be arranged, or made of the arranged things.
map_behind : {X Y : Type 0} (f : X → Y) (x : X) (xss : List (List X)) → map (λ ys. f x ∷ ys) (map (map f) xss) ≡ map (map f) (map (λ zs. x ∷ zs) xss)
map_behind f x [] = refl
map_behind f x (xs ∷ xss) = ap (λ rest. (f x ∷ map f xs) ∷ rest) (map_behind f x xss)

placed-map : {X Y : Type 0} (f : X → Y) (x : X) (ys : List X) → placed (f x) (map f ys) ≡ map (map f) (placed x ys)
placed-map f x [] = refl
placed-map f x (y ∷ ys) = ap (λ rest. (f x ∷ f y ∷ map f ys) ∷ rest) (ap (map (λ zs. f y ∷ zs)) (placed-map f x ys) ∙ map_behind f y (placed x ys))

map-made : {X Y Z : Type 0} (g : Y → Z) (h : X → List Y) (xs : List X) → flat_map (λ x. map g (h x)) xs ≡ map g (flat_map h xs)
map-made g h [] = refl
map-made g h (x ∷ xs) = ap (λ rest. map g (h x) ++ rest) (map-made g h xs) ∙ sym (map-append g (h x) (flat_map h xs))

pub arranged-map : {X Y : Type 0} (f : X → Y) (n : ℕ) (xs : List X) → arranged n (map f xs) ≡ map (map f) (arranged n xs)
arranged-map f zero xs = refl
arranged-map f (suc n) [] = refl
arranged-map f (suc n) (x ∷ xs) =
    let with_first : flat_map (placed (f x)) (arranged n (map f xs)) ≡ map (map f) (flat_map (placed x) (arranged n xs)) =
    ap (flat_map (placed (f x))) (arranged-map f n xs)
    ∙ (flat_map-map (placed (f x)) (map f) (arranged n xs)
    ∙ (flat_map-like (λ order. placed (f x) (map f order)) (λ order. map (map f) (placed x order)) (arranged n xs) (λ order. placed-map f x order)
    ∙ map-made (map f) (placed x) (arranged n xs))) in
    (λ i. with_first i ++ arranged-map f (suc n) xs i) ∙ sym (map-append (map f) (flat_map (placed x) (arranged n xs)) (arranged (suc n) xs))

shifted : (t : List Row) (ts : Tables) (first n : ℕ) → map (λ port. table_at (t ∷ ts) port) (ports_from (suc first) n) ≡ map (λ port. table_at ts port) (ports_from first n)
shifted t ts first zero = refl
shifted t ts first (suc n) = ap (λ rest. table_at ts first ∷ rest) (shifted t ts (suc first) n)

-- the tables of all ports
all_tables : (ts : Tables) → picked (ports_from 0 (length ts)) ts ≡ ts
all_tables [] = refl
all_tables (t ∷ ts) = ap (λ rest. t ∷ rest) (shifted t ts 0 (length ts) ∙ all_tables ts)

-- what is made of the tables in each order is what is made of those that the orders of the ports pick
pub orders_pick : (f : Tables → List Row) (number : ℕ) (ts : Tables) → flat_map f (arranged number ts) ≡ flat_map (λ order. f (picked order ts)) (arranged number (ports_from 0 (length ts)))
orders_pick f number ts =
    ap (λ us. flat_map f (arranged number us)) (sym (all_tables ts))
    ∙ (ap (flat_map f) (arranged-map (λ port. table_at ts port) number (ports_from 0 (length ts)))
    ∙ flat_map-map f (map (λ port. table_at ts port)) (arranged number (ports_from 0 (length ts))))

-- behind a place with another port the port is one place further
pub place_further : (order : List ℕ) (port place q : ℕ) → place < length order → q ≡ get_or order place 0 → (q ≡ port → ⊥) → order_place port (drop place order) ≡ suc (order_place port (drop (place + 1) order))
place_further order port place q within is other =
    ap (order_place port) (drop-cons order place 0 within)
    ∙ (ap (λ b. cond b 0 (suc (order_place port (drop (suc place) order)))) (ne_eqb (get_or order place 0) port (λ same. other (is ∙ same)))
    ∙ ap (λ n. suc (order_place port (drop n order))) (sym (add-one place)))

-- at its place it is at once
pub place_here : (order : List ℕ) (port place q : ℕ) → place < length order → q ≡ get_or order place 0 → q ≡ port → order_place port (drop place order) ≡ 0
place_here order port place q within is same =
    ap (order_place port) (drop-cons order place 0 within)
    ∙ ap (λ b. cond b 0 (suc (order_place port (drop (suc place) order)))) (eq-eqb (get_or order place 0) port (sym is ∙ same))

-- behind all places it isn't
pub place_beyond : (order : List ℕ) (port place : ℕ) → length order ≤ place → order_place port (drop place order) ≡ 0
place_beyond order port place far = ap (order_place port) (drop_of_length-le order far)

map_along : (xs : List ℕ) (q : ℕ) (zss : List (List ℕ)) → map (λ zs. xs ++ zs) (map (λ zs. q ∷ zs) zss) ≡ map (λ zs. (xs ++ q ∷ []) ++ zs) zss
map_along xs q [] = refl
map_along xs q (zs ∷ zss) = λ i. sym (append_assoc xs (q ∷ []) zs) i ∷ map_along xs q zss i

-- one place more at which a port is put
pub placed_more : (port place : ℕ) (order : List ℕ) → place < length order
    → map (λ zs. take place order ++ zs) (placed port (drop place order)) ≡ (take place order ++ port ∷ drop place order) ∷ map (λ zs. take (place + 1) order ++ zs) (placed port (drop (place + 1) order))
placed_more port place order within =
    let is : drop place order ≡ get_or order place 0 ∷ drop (place + 1) order = drop-cons order place 0 within ∙ ap (λ n. get_or order place 0 ∷ drop n order) (sym (add-one place)) in
    ap (λ rest. map (λ zs. take place order ++ zs) (placed port rest)) is
    ∙ (λ i. (take place order ++ port ∷ sym is i) ∷ (map_along (take place order) (get_or order place 0) (placed port (drop (place + 1) order)) ∙ ap (λ front. map (λ zs. front ++ zs) (placed port (drop (place + 1) order))) (sym (take_more order place 0 within))) i)

-- the last place
pub placed_last : (port place : ℕ) (order : List ℕ) → length order ≤ place → map (λ zs. take place order ++ zs) (placed port (drop place order)) ≡ (take place order ++ port ∷ drop place order) ∷ []
placed_last port place order far = ap (λ rest. map (λ zs. take place order ++ zs) (placed port rest)) (drop_of_length-le order far) ∙ ap (λ rest. (take place order ++ port ∷ rest) ∷ []) (sym (drop_of_length-le order far))

-- an order with the port at one place more
pub one_placed : (port place : ℕ) (order longer : List ℕ) (before after all : List (List ℕ)) → place < length order → after ≡ before ++ longer ∷ [] → longer ≡ take place order ++ port ∷ drop place order
    → before ++ map (λ zs. take place order ++ zs) (placed port (drop place order)) ≡ all → after ++ map (λ zs. take (place + 1) order ++ zs) (placed port (drop (place + 1) order)) ≡ all
one_placed port place order longer before after all within pushed is was =
    let rest = map (λ zs. take (place + 1) order ++ zs) (placed port (drop (place + 1) order)) in
    ap (λ orders. orders ++ rest) pushed
    ∙ (append_assoc before (longer ∷ []) rest
    ∙ (ap (λ one. before ++ one ∷ rest) is
    ∙ (ap (λ orders. before ++ orders) (sym (placed_more port place order within)) ∙ was)))

-- the last one
pub last_placed : (port place : ℕ) (order longest : List ℕ) (before after all : List (List ℕ)) → length order ≤ place → after ≡ before ++ longest ∷ [] → longest ≡ take place order ++ port ∷ drop place order
    → before ++ map (λ zs. take place order ++ zs) (placed port (drop place order)) ≡ all → after ≡ all
last_placed port place order longest before after all far pushed is was =
    pushed ∙ (ap (λ one. before ++ one ∷ []) is ∙ (ap (λ orders. before ++ orders) (sym (placed_last port place order far)) ∙ was))
