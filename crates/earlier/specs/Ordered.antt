-- The mesh checks, reading and planning by any order test on neighbouring pairs, and the test from before links could have the same ends (02, request 7).
-- By the test of now they are the library's own: `ordered-now` of Main. Definitions only.
use Rattle.std.specs.Prelude.{ℕ, zero, suc, ◌+◌, List, [], ◌∷◌, Bool, not, ◌&&◌, ◌||◌, length, get_or, take, drop, ltb, leb, eqb}
use Rattle.scan.specs.Bytes.{number}
use Rattle.scan.specs.Lowest.{lowest, any}
use Rattle.mesh.specs.declared.Link.{Link}
use Rattle.mesh.specs.declared.Mesh.{Mesh}
use Rattle.mesh.specs.Answer.{Answer, Accepted}
use Rattle.mesh.specs.Mesh.{must, and_then, zero_link, nodes_fit, count_fits, rest_zero}
use Rattle.fields.specs.Field.{needless}
use Rattle.fields.specs.Record.{as_link, fields_of, fields_at, record_length, reserved}
use Rattle.codec.specs.declared.Decoded.{Decoded}
use Rattle.codec.specs.Book.{header_answer, mesh_of, decoded_as}
use Rattle.graph.specs.Plan.{unreached, parts, plan}
use Rattle.nets.specs.Nets.{net_of}
use Rattle.planner.specs.declared.Planned.{Planned}
use Rattle.planner.specs.Plan.{padded, or_none, planned_as}

-- whether the pair (low, high), given last, may stand after the pair (plow, phigh)
abbrev pub Order : Type 0
Order = ℕ → ℕ → ℕ → ℕ → Bool

-- the order test from before: the pair (low, high) stands after the pair (plow, phigh), and is not the same
abbrev pub strictly_follows : Order
strictly_follows plow phigh low high = ltb plow low || (eqb plow low && ltb phigh high)

module _ (order : Order) where
  -- ---- the mesh checks

  -- the link l after the link p, in a mesh of n nodes: 7, 6, 8
  abbrev pub link_answer_by : ℕ → Link → Link → ℕ → Answer
  link_answer_by n p l place =
      must (ltb l.low l.high) 7 place
      (must (ltb l.low n && ltb l.high n) 6 place
      (must (order p.low p.high l.low l.high) 8 place
      Accepted))

  -- the links in turn after the link p, the first of them with the number i
  unfoldable pub links_answer_by : ℕ → Link → ℕ → List Link → Answer
  links_answer_by n p i [] = Accepted
  links_answer_by n p i (l ∷ ls) = and_then (link_answer_by n p l i) (links_answer_by n l (i + 1) ls)

  -- 3, 4; each link 7, 6, 8; then 13
  unfoldable pub mesh_answer_by : Mesh → Answer
  mesh_answer_by m =
      must (nodes_fit m.nodes) 3 0
      (must (count_fits m.count) 4 0
      (and_then (links_answer_by m.nodes zero_link 0 (take m.count m.links))
      (must (rest_zero m) 13 0
      Accepted)))

  -- ---- reading

  -- the record at the front of s, which stands at `at` in a book of `end` bytes, after the link p: 1, 5, 1, 9, 7, 6, 8
  unfoldable pub record_answer_by : ℕ → ℕ → Link → ℕ → List ℕ → Answer
  record_answer_by n end p at s =
      must (ltb 0 (length s)) 1 end
      (must (not (reserved (get_or s 0 0))) 5 at
      (must (leb (record_length (get_or s 0 0)) (length s)) 1 end
      (must (not (needless (get_or s 0 0) (fields_of p (fields_at p s)))) 9 at
      (link_answer_by n p (as_link (fields_at p s)) at))))

  -- k records at the front of s; then 10
  unfoldable pub records_answer_by : ℕ → ℕ → Link → ℕ → ℕ → List ℕ → Answer
  records_answer_by n end p at zero s = must (eqb (length s) 0) 10 at Accepted
  records_answer_by n end p at (suc k) s =
      and_then (record_answer_by n end p at s)
      (records_answer_by n end (as_link (fields_at p s)) (at + record_length (get_or s 0 0)) k (drop (record_length (get_or s 0 0)) s))

  -- the book s
  unfoldable pub book_answer_by : List ℕ → Answer
  book_answer_by s =
      and_then (header_answer s)
      (records_answer_by (get_or s 1 0) (length s) zero_link 4 (number 2 s 2) (drop 4 s))

  -- what reading gives
  unfoldable pub decoded_by : List ℕ → Decoded
  decoded_by s = decoded_as (book_answer_by s) (mesh_of s)

  -- ---- planning

  -- the mesh checks, 20, 21
  unfoldable pub plan_answer_by : Mesh → Answer
  plan_answer_by m =
      and_then (mesh_answer_by m)
      (must (not (any (unreached (net_of m)) m.nodes)) 20 (lowest (unreached (net_of m)) m.nodes)
      (must (not (any (parts (net_of m)) m.count)) 21 (lowest (parts (net_of m)) m.count)
      Accepted))

  -- what planning gives
  unfoldable pub planned_by : Mesh → Planned
  planned_by m = planned_as (plan_answer_by m) (padded (or_none (plan (net_of m))))
