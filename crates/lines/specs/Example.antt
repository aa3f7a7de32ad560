-- Document 01's example of what `outline` prints.
use Rattle.std.specs.Prelude.{◌*◌, ◌-◌, ◌≡◌}
use Rattle.grammar.specs.Tree.{Trees, infixed, nil, ◌▸◌, sizes, identifier, expression_statement, block, width, ended}
use Rattle.grammar.specs.Parsed.{read}
use Rattle.lines.specs.Lines.{letters, printed}

-- The tree of the script a + b * c.
abbrev pub script : Trees
script =
    ended 5 (block 0 (ended 4 (expression_statement 0 (infixed 0 1 (ended 0 (identifier 0))
    (infixed 2 3 (ended 2 (identifier 2)) (ended 4 (identifier 4)) 4) 4)) ▸ nil)) ▸ nil

-- With 1,800 rows, and EOF at place 5, its text is that of document 01, with the ninth word of each row.
abbrev pub Example : Type 0
Example =
    printed (read script 5 (1800 - sizes script)) (width * 1800)
    ≡ letters "ok 7 7 5\n2 0 0 0 0 0 0 0 0\n2 0 2 0 0 0 0 0 2\n2 0 4 0 0 0 0 0 4\n12 2 3 2 3 0 0 0 4\n12 0 1 1 4 0 0 0 4\n38 0 0 5 0 0 0 0 4\n46 0 0 6 0 0 0 0 5\n"
