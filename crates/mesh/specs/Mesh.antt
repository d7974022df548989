-- The mesh and its checks (01, "The mesh" and "Order"). Definitions only.
use Rattle.std.specs.Prelude.{ℕ, ◌+◌, List, [], ◌∷◌, ◌++◌, Bool, true, false, cond, ◌&&◌, ◌||◌, length, take, drop, replicate, ltb, leb, eqb, Err}
use Rattle.scan.specs.All.{all}
use Rattle.mesh.specs.declared.Link.{Link}
use Rattle.mesh.specs.declared.Mesh.{Mesh}
use Rattle.mesh.specs.Answer.{Answer, Accepted, Refused}

-- ---- answers

-- the refusal with this number and place unless the test passes, then what comes next
abbrev pub must : Bool → ℕ → ℕ → Answer → Answer
must t number place next = cond t next (Refused number place)

-- the first answer if it is a refusal, else the second
abbrev pub and_then : Answer → Answer → Answer
and_then Accepted next = next
and_then (Err r) next = Refused r.number r.place

-- the answer is a refusal
abbrev pub refuses : Answer → Bool
refuses Accepted = false
refuses (Err r) = true

-- what an output holds after a call that writes these entries to its front: those past them stay as they were, and all on a refusal
abbrev pub output_as : Answer → List ℕ → List ℕ → List ℕ
output_as Accepted written out = written ++ drop (length written) out
output_as (Err r) written out = out

-- ---- records

-- an entry past the last link; it also stands before the first link
abbrev pub zero_link : Link
zero_link = record { low = 0; high = 0; length = 0; pair = 0 }

-- 01's all-zero mesh
abbrev pub zero_mesh : Mesh
zero_mesh = record { nodes = 0; count = 0; links = replicate 256 zero_link; ducts = replicate 256 0 }

-- ---- checks

-- N nodes, 2 to 64
abbrev pub nodes_fit : ℕ → Bool
nodes_fit n = leb 2 n && leb n 64

-- L links, 0 to 256
abbrev pub count_fits : ℕ → Bool
count_fits k = leb k 256

-- the order test: the pair (low, high) is not below the pair (plow, phigh); equal pairs may stand (02, request 7)
abbrev pub follows : ℕ → ℕ → ℕ → ℕ → Bool
follows plow phigh low high = ltb plow low || (eqb plow low && leb phigh high)

-- a link with these ends after one with the ends plow and phigh, in a mesh of n nodes: 7, 6, 8
unfoldable pub ends_answer : ℕ → ℕ → ℕ → ℕ → ℕ → ℕ → Answer
ends_answer n plow phigh low high place =
    must (ltb low high) 7 place
    (must (ltb low n && ltb high n) 6 place
    (must (follows plow phigh low high) 8 place
    Accepted))

-- the link l after the link p
abbrev pub link_answer : ℕ → Link → Link → ℕ → Answer
link_answer n p l place = ends_answer n p.low p.high l.low l.high place

-- the links in turn after the link p, the first of them with the number i
unfoldable pub links_answer : ℕ → Link → ℕ → List Link → Answer
links_answer n p i [] = Accepted
links_answer n p i (l ∷ ls) = and_then (link_answer n p l i) (links_answer n l (i + 1) ls)

-- the entry is all zero
abbrev pub is_zero : Link → Bool
is_zero l = eqb l.low 0 && eqb l.high 0 && eqb l.length 0 && eqb l.pair 0

abbrev pub all_zero : List Link → Bool
all_zero = all is_zero

-- the same of duct numbers (02, request 4)
abbrev pub ductless : List ℕ → Bool
ductless = all (λ d. eqb d 0)

-- each entry past the last link of m is zero
abbrev pub rest_zero : Mesh → Bool
rest_zero m = all_zero (drop m.count m.links) && ductless (drop m.count m.ducts)

-- the mesh checks: 3, 4; each link 7, 6, 8; then 13
unfoldable pub mesh_answer : Mesh → Answer
mesh_answer m =
    must (nodes_fit m.nodes) 3 0
    (must (count_fits m.count) 4 0
    (and_then (links_answer m.nodes zero_link 0 (take m.count m.links))
    (must (rest_zero m) 13 0
    Accepted)))
