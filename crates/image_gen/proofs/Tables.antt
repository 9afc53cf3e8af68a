-- The table of TOML that a generated image is: its nodes while it is read, and its members in the end.
use Rattle.std.proofs.Common.{ℕ, ◌+◌, List, [], ◌∷◌, ◌++◌, map, codes, decimal, pos}
use Rattle.std.specs.List.{range_with_len}
use Rattle.toml.specs.Data.{Data, string, integer, array, table, Items, no_items, item, Members, no_members, member}
use Rattle.toml.specs.Tables.{Nodes, no_nodes, node, value, open_array, close, Document}
use Rattle.toml.specs.View.{items_of}
use Rattle.image_gen.specs.Generated.{moment_at, slot_length}

abbrev pub number : ℕ → Data
number n = integer (pos n)

-- ---- the machine

abbrev pub cache_nodes : ℕ → ℕ → List ℕ → Nodes
cache_nodes sets ways policy =
    node (codes "policy") (value (string policy))
    (node (codes "sets") (value (number sets)) (node (codes "ways") (value (number ways)) no_nodes))

abbrev pub cache_data : ℕ → ℕ → List ℕ → Data
cache_data sets ways policy = table (close (cache_nodes sets ways policy))

abbrev pub costs_nodes : Nodes
costs_nodes =
    node (codes "base") (value (number 1)) (node (codes "flush") (value (number 20)) (node (codes "l1")
    (value (number 1)) (node (codes "l2") (value (number 8))
    (node (codes "mem") (value (number 40)) (node (codes "mispredict") (value (number 3)) (node (codes "tlb")
    (value (number 1)) (node (codes "trap") (value (number 10))
    (node (codes "wb") (value (number 10)) no_nodes))))))))

-- the arrays of tables stand where their keys belong
abbrev pub image_nodes : List ℕ → (Nodes → Nodes) → (Nodes → Nodes) → Nodes
image_nodes policy domains schedule =
    node (codes "costs") (value (table (close costs_nodes))) (domains (node (codes "frames")
    (value (number 128)) (node (codes "l1d") (value (cache_data 16 2 (codes "lru")))
    (node (codes "l1i") (value (cache_data 16 2 (codes "lru"))) (node (codes "l2")
    (value (cache_data 512 4 policy)) (node (codes "line") (value (number 64))
    (node (codes "predictor") (value (number 16)) (schedule (node (codes "shared")
    (value (number 512)) (node (codes "tlb") (value (cache_data 4 2 (codes "lru"))) no_nodes))))))))))

abbrev pub none : Nodes → Nodes
none ns = ns

abbrev pub domains_node : Items → Nodes → Nodes → Nodes
domains_node done last ns = node (codes "domain") (open_array done last) ns

abbrev pub schedule_node : Items → Nodes → Nodes → Nodes
schedule_node done last ns = node (codes "schedule") (open_array done last) ns

abbrev pub at_machine : List ℕ → Document
at_machine policy = (image_nodes policy none none, [])

abbrev pub at_domains : List ℕ → Items → Nodes → Document
at_domains policy done last = (image_nodes policy (domains_node done last) none, codes "domain" ∷ [])

abbrev pub at_schedule : List ℕ → Items → Nodes → Items → Nodes → Document
at_schedule policy domains domain done last =
    (image_nodes policy (domains_node domains domain) (schedule_node done last), codes "schedule" ∷ [])

abbrev pub image_members : List ℕ → Items → Items → Members
image_members policy domains schedule =
    member (codes "costs") (table (close costs_nodes)) (member (codes "domain") (array domains) (member
    (codes "frames") (number 128) (member (codes "l1d") (cache_data 16 2 (codes "lru"))
    (member (codes "l1i") (cache_data 16 2 (codes "lru")) (member (codes "l2") (cache_data 512 4 policy) (member (codes "line") (number 64)
    (member (codes "predictor") (number 16) (member (codes "schedule") (array schedule)
    (member (codes "shared") (number 512)
    (member (codes "tlb") (cache_data 4 2 (codes "lru")) no_members))))))))))

-- ---- a domain

abbrev pub segment_nodes : ℕ → List ℕ → List ℕ → Nodes
segment_nodes page rights hex =
    node (codes "hex") (value (string hex)) (node (codes "page") (value (number page))
    (node (codes "pages") (value (number 1)) (node (codes "rights") (value (string rights)) no_nodes)))

abbrev pub segment_data : ℕ → List ℕ → List ℕ → Data
segment_data page rights hex = table (close (segment_nodes page rights hex))

abbrev pub moment_data : ℕ → ℕ → ℕ → Data
moment_data d k w = array (item (number (moment_at k w)) (item (number d) no_items))

abbrev pub moments_data : ℕ → (ℕ → ℕ) → Items
moments_data d w = items_of (map (λ k. moment_data d k (w k)) (range_with_len 0 8))

abbrev pub domain_nodes : ℕ → List ℕ → Items → Nodes
domain_nodes d hex moments =
    node (codes "caps") (value (array (item (string (codes "irq " ++ decimal d)) no_items))) (node
    (codes "colours") (value (array (item (number (d + 1)) no_items)))
    (node (codes "entry") (value (number 65536)) (node (codes "lines")
    (value (array (item (number d) no_items))) (node (codes "moments") (value (array moments))
    (node (codes "name") (value (string (codes "g" ++ decimal d)))
    (node (codes "segment")
    (value (array (item (segment_data 16 (codes "rx") hex)
    (item (segment_data 32 (codes "rw") []) no_items)))) no_nodes))))))

-- ---- a slot

abbrev pub slot_nodes : ℕ → ℕ → Nodes
slot_nodes d w =
    node (codes "domain") (value (number d)) (node (codes "length") (value (number (slot_length w)))
    (node (codes "pad") (value (number 6150)) no_nodes))
